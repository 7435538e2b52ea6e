pub mod Showing
pub mod Children
pub mod Declaring
pub mod Example
pub mod Looking
pub mod Tags
