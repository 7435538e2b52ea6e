mod Arguments
pub mod Noting
