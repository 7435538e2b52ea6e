pub mod Searches
pub mod Reaching
