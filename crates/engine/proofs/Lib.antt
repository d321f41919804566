mod Fronts
pub mod Judged
mod Kept
mod Rings
mod Tallies
mod Written
pub mod Shuts
