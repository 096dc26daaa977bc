pub mod Bytes
pub mod Back
pub mod Chunks
pub mod Spelling
mod Splitting
