pub mod Whole
pub mod Opened
pub mod EachPass
pub mod Missing
pub mod Accepted
pub mod Deadlines
