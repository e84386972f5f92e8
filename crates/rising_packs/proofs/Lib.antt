pub mod Same
pub mod Twins
pub mod Larger
pub mod Unlooked
