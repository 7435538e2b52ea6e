pub mod BranchLemmas
pub mod TrailLemmas
pub mod ValueLemmas
pub mod NamedLemmas
pub mod RefsLemmas
