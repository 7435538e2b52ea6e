pub mod Seating
pub mod Sights
