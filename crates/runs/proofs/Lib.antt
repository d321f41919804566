pub mod Calls
pub mod Following
pub mod Laid
pub mod Followed
mod Outs
mod Begun
mod Listed
pub mod Listing
