pub mod Abreast
pub mod Around
pub mod Flows
pub mod Places
pub mod Ranges
pub mod Still
