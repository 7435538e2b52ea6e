pub mod Firsts
pub mod Trees
pub mod Tags
