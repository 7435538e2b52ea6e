pub mod Keeping
pub mod Opening
pub mod Reopening
pub mod inner
