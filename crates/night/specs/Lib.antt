pub mod Enclaves
pub mod Halves
pub mod Night
