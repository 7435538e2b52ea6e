pub mod BitLemmas
pub mod DecimalLemmas
pub mod IdentityLemmas
pub mod KeyLemmas
pub mod UnionLemmas
