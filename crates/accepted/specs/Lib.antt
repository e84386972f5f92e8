pub mod Totals
pub mod Chains
pub mod Modes
pub mod Worth
pub mod Tables
pub mod Eleven
