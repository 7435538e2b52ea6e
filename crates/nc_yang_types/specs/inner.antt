pub mod Cuts
pub mod Walks
pub mod Known
pub mod Footings
pub mod Planning
pub mod Judging
pub mod Nested
pub mod KnownTypes
