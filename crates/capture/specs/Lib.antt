pub mod Records
pub mod Captures
pub mod Laws
