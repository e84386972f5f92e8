pub mod Steps
pub mod After
pub mod Bytes
pub mod Promises
