pub mod Holding
pub mod Chairs
pub mod Offices
pub mod inner
