pub mod Kinds
pub mod Headers
pub mod Frames
pub mod Laws
