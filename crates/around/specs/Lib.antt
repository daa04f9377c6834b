pub mod Around
pub mod Flowing
pub mod Faces
pub mod Still
