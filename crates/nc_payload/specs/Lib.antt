pub mod inner
pub mod Names
