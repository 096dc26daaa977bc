pub mod Hex
pub mod Decoding
pub mod Lines
