pub mod Entering
pub mod Left
pub mod Tallies
pub mod Hearing
pub mod Talking
pub mod Boards
