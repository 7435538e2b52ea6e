pub mod Counts
pub mod Loads
pub mod Outputs
pub mod Scripting
pub mod Scripts
