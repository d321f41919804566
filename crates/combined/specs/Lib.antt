pub mod Blocks
pub mod Frames
