pub mod Promises
pub mod Done
pub mod OwnCalls
