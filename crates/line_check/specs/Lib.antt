pub mod Files
pub mod Line
