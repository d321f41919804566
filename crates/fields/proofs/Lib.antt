pub mod Numbers
pub mod Puts
