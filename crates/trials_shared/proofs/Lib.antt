pub mod Widening
pub mod Sitting
