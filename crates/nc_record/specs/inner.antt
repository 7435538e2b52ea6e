pub mod Given
pub mod Placing
