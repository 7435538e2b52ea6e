pub mod Causes
pub mod Clocks
pub mod Disks
pub mod Folders
pub mod Listeners
pub mod Streams
pub mod inner
