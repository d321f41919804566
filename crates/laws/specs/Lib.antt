pub mod Setting
pub mod Journal
pub mod Answers
pub mod Machine
pub mod Bytes
pub mod Laws
pub mod Example
