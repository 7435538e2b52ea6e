pub mod Parameters
pub mod Reads
