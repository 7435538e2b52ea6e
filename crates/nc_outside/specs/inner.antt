pub mod Listening
pub mod Objects
