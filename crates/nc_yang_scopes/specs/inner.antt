pub mod Frames
pub mod Numberings
pub mod Names
pub mod Books
pub mod Naming
pub mod Sharing
pub mod Links
