pub mod Queues
pub mod Lawfulness
pub mod Recordings
pub mod Laws
