pub mod Placing
pub mod Arrivals
