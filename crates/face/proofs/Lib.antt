pub mod Bounds
pub mod Laws
pub mod Counting
