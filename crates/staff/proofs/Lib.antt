pub mod Parts
pub mod AtLeast0
pub mod Answers
pub mod ByTheTest
