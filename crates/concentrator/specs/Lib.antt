pub mod Wholes
pub mod Calls
