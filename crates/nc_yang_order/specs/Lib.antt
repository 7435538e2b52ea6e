pub mod Orders
pub mod Reaching
pub mod Laws
pub mod inner
