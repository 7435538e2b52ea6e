pub mod Walks
pub mod Tables
pub mod Rooms
pub mod Narrowing
pub mod Seen
pub mod Places
pub mod Edges
pub mod Marks
