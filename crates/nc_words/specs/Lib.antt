pub mod Asking
pub mod Ends
pub mod Notes
pub mod Printing
pub mod Words
pub mod Writings
