pub mod Bodies
pub mod Qualities
pub mod Spans
mod Lengths
