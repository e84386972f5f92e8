pub mod Rules
pub mod Offenders
pub mod Answers
