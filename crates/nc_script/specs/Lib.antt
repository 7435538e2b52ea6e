pub mod Connections
pub mod Leaving
pub mod Steps
pub mod Runs
pub mod Load
pub mod Laws
pub mod inner
