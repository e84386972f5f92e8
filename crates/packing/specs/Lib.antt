pub mod Shape
pub mod Limits
pub mod Records
pub mod Clean
pub mod Packing
pub mod Starts
pub mod Runs
pub mod TableRows
