pub mod Below
pub mod Lists
pub mod Runs
pub mod Spans
pub mod Walks
