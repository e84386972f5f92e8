pub mod Change
pub mod Promises
