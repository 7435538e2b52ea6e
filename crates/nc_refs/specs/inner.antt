pub mod Branches
pub mod Trails
pub mod Referred
pub mod Named
pub mod Broken
