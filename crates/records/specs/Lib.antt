pub mod Gathered
pub mod Row
