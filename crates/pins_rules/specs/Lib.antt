pub mod Table
pub mod Calls
pub mod PublicContracts
pub mod Starred
pub mod Refusals
