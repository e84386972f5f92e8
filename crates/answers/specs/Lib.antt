pub mod Fields
pub mod Numbers
pub mod Listed
pub mod Checks
pub mod Slots
