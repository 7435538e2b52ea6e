mod Denying
pub mod Drafts
mod Policies
mod Told
