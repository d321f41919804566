pub mod Seals
pub mod Again
pub mod Headed
