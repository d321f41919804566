pub mod Formats
pub mod Stations
pub mod Configs
