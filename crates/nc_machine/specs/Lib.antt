pub mod Lasting
pub mod Serving
pub mod Seats
pub mod Laws
pub mod inner
