pub mod Courses
pub mod Governing
pub mod Own
