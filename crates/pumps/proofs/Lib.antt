pub mod Amounts
pub mod AtCell
pub mod Checks
pub mod Found
pub mod SoFar
pub mod Turns
pub mod Undoing
