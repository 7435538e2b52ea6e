mod Loading
mod Outputting
pub mod Scripting
