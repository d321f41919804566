mod Columns
mod Linear
pub mod Bounds
