pub mod Children
pub mod Sought
pub mod Within
pub mod inner
