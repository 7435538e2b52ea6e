pub mod EndLemmas
pub mod Extending
pub mod SameLemmas
pub mod StepOrder
pub mod Worked
