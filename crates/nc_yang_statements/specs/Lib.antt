pub mod Keywords
pub mod Places
pub mod BuiltIns
pub mod Arguments
pub mod Statements
pub mod Rules
pub mod Stops
pub mod inner
