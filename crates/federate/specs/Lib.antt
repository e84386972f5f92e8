pub mod Records
pub mod Walk
pub mod Enclaves
pub mod Federate
pub mod Answer
pub mod Missing
pub mod Deadlines
