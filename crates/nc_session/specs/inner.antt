pub mod Unseen
pub mod Steps
pub mod Turns
