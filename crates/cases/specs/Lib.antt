pub mod Packs
pub mod Fields
pub mod Records
pub mod Cases
