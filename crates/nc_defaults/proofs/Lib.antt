pub mod BelowLemmas
pub mod ListLemmas
pub mod PartsLemmas
pub mod Runs
pub mod SpanLemmas
pub mod SpotsLemmas
pub mod SoughtLemmas
pub mod StepLemmas
