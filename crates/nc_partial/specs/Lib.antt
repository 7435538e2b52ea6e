pub mod Granted
pub mod Laws
pub mod Selects
pub mod inner
