pub mod Begun
pub mod Crashes
pub mod Devices
pub mod Grounds
pub mod Header
pub mod Outside
pub mod Sessions
pub mod inner
