pub mod Lists
pub mod Circles
pub mod Searching
pub mod ReachLemmas
pub mod EdgeLemmas
