pub mod Trees
pub mod Answer
pub mod Promises
