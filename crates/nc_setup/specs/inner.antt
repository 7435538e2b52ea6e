pub mod Namings
pub mod Stops
pub mod Checks
