pub mod Prepend
