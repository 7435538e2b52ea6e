pub mod Laws
pub mod ReadBack
pub mod Reading
pub mod inner
