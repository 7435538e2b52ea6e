pub mod Alone
pub mod Behind
pub mod Denied
pub mod Single
pub mod Turns
