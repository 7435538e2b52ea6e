mod Headers
pub mod Lasting
mod Preparing
pub mod Seated
pub mod Serving
