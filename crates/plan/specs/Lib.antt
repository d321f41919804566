pub mod Ports
pub mod Tables
pub mod Views
pub mod Plans
pub mod Publish
pub mod Find
pub mod Runs
pub mod Laws
