pub mod Variables
pub mod Checked
pub mod InS
