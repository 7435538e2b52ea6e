pub mod Gaining
pub mod SameDesks
pub mod Closing
pub mod Sent
pub mod Sharing
pub mod Returned
pub mod Plain
