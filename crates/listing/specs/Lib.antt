pub mod Judged
pub mod Lines
pub mod Builds
pub mod Waits
