pub mod EnclaveLaws
pub mod HalfLaws
pub mod Day
