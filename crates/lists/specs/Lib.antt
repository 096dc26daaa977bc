pub mod FixedList
