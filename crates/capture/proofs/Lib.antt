pub mod Walk
mod Written
pub mod Unread
pub mod Road
