pub mod TreeLaws
pub mod NumberLaws
pub mod ListLaws
pub mod AnswerLaws
pub mod Ending
pub mod Following
pub mod Promises
