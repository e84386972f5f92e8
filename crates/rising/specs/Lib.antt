pub mod Rising
pub mod Reach
pub mod Marks
pub mod Answer
pub mod Claims
pub mod Walk
