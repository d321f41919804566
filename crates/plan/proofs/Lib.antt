mod Accepts
mod Asked
mod Back
mod Held
mod Holds
mod Finds
pub mod Spans
