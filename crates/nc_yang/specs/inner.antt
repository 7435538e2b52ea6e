pub mod Conditions
pub mod Names
pub mod Stops
pub mod Finishing
pub mod Marked
pub mod Judged
pub mod Named
