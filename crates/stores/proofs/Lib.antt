pub mod Mapped
pub mod Written
