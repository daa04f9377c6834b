pub mod Tides
pub mod Still
