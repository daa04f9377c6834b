pub mod Sites
pub mod Crossings
