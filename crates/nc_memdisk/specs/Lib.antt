pub mod Images
pub mod Laws
pub mod Picks
pub mod States
