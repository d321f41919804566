pub mod CheckWord
pub mod Words
