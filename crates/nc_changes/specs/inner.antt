pub mod Asked
pub mod Common
pub mod Entries
pub mod Marks
pub mod Ranks
