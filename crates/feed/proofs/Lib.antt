pub mod Nexts
mod Both
