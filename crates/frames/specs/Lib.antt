pub mod Kinds
pub mod Table
pub mod Fields
pub mod Entries
pub mod Borrowed
pub mod Reading
pub mod Line
pub mod Text
