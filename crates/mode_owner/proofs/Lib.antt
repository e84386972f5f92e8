pub mod Holders
pub mod Owner
