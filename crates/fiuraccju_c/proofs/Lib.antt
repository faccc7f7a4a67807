pub mod Unpacking
pub mod Answers
pub mod Promises
