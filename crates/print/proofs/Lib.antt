pub mod Laws
pub mod Pages
pub mod Lengths
