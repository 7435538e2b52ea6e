pub mod CutLemmas
pub mod WordLemmas
pub mod StepLemmas
pub mod PatternLemmas
pub mod LeafrefLemmas
