pub mod Words
pub mod Seen
pub mod Cases
pub mod Called
