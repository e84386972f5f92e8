pub mod Images
pub mod Packs
pub mod Federates
