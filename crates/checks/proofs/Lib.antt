-- What the proofs share.
pub mod Rows
pub mod Fits
