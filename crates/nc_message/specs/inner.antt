pub mod Declaring
pub mod Levels
