pub mod Answered
pub mod Tallies
pub mod ScopeTrees
