pub mod Policies
pub mod Feeds
