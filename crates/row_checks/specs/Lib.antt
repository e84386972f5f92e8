pub mod Bindings
pub mod Reactors
pub mod Actions
pub mod Ports
pub mod Reactions
pub mod Modes
