pub mod Above
pub mod NextRow
pub mod Sizes
pub mod Found
pub mod Written
pub mod ReadAgain
pub mod Reading
