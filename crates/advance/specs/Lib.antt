pub mod Advance
