pub mod Framing
pub mod Replies
pub mod Streams
pub mod Writing
pub mod Laws
pub mod inner
