pub mod Speeds
pub mod Gathered
pub mod Velocities
