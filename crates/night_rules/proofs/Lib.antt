pub mod Laws
pub mod Ancestors
pub mod Halves
pub mod Rules
pub mod Offenders
pub mod Same
pub mod Larger
pub mod Unlooked
