pub mod Laws
pub mod Loops
pub mod Lengths
pub mod KeyPieces
pub mod Rows
pub mod Numbers
