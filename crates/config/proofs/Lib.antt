mod Bodies
pub mod Walk
pub mod Exact
pub mod Joins
