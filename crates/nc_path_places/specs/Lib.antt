pub mod inner
pub mod Apart
pub mod Faults
pub mod Laws
