pub mod Asked
pub mod Cuts
pub mod Faults
pub mod Readings
pub mod Scopes
