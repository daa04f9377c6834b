pub mod Tide
pub mod Known
