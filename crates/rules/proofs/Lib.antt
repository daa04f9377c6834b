pub mod Signs
pub mod Shares
pub mod Fair
pub mod Walls
pub mod Sums
pub mod Starred
pub mod Larger
