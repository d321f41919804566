pub mod Stamped
pub mod Aligned
