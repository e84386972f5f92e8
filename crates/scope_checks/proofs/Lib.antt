-- What the proofs share.
pub mod EndsLaws
pub mod LinksLaws
pub mod DepthLaws
