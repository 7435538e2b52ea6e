pub mod Reading
pub mod Headers
pub mod Faults
pub mod Placing
