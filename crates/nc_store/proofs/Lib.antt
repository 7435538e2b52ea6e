pub mod Members
pub mod Spelling
pub mod Files
pub mod Bounds
pub mod Settling
pub mod Opened
