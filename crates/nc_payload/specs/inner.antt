pub mod Earlier
pub mod Gathered
pub mod Marks
pub mod Places
pub mod Reads
