pub mod Bounds
pub mod Quotients
pub mod Surfaces
pub mod Slopes
