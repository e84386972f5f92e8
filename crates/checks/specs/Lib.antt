pub mod Image
pub mod Refs
pub mod Lists
pub mod Identities
