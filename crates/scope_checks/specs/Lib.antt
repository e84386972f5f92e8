pub mod Ends
pub mod Scopes
pub mod Links
pub mod Depths
