pub mod Limits
pub mod Boxes
pub mod Closing
pub mod Calls
pub mod States
pub mod Opens
pub mod Rings
pub mod Views
