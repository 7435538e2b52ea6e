pub mod Entries
pub mod Given
pub mod Indexed
pub mod Lowest
pub mod Rising
