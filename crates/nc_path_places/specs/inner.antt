pub mod Going
pub mod Halting
pub mod Candidates
pub mod Places
pub mod Counted
pub mod Leafrefs
pub mod LeafrefNames
pub mod LeafrefPlaces
