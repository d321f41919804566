pub mod Shifts
pub mod Lengths
pub mod Lines
pub mod Laws
