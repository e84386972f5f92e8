pub mod ListTables
pub mod Routes
pub mod Deadlines
