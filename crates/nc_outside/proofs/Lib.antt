pub mod Known
pub mod Counts
pub mod DiskFiles
pub mod Listing
pub mod Passing
pub mod Readings
pub mod Worked
