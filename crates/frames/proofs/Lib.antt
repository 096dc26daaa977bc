mod Chunks
mod Frames
pub mod Table
mod Back
