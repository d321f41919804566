mod Sound
mod Stamps
pub mod Moves
