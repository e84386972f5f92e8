pub mod Turned
pub mod Convert
pub mod Promises
pub mod Steps
