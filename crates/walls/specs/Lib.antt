pub mod Folds
pub mod Lent
