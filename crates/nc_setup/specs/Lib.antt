pub mod Folder
pub mod Initial
pub mod Setup
pub mod inner
