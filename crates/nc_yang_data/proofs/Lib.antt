mod WordLemmas
mod LeafLemmas
mod CaseLemmas
mod SeenLemmas
mod PlaceLemmas
mod PrefixLemmas
mod DraftLemmas
mod TextLemmas
mod DefaultLemmas
mod ConditionLemmas
mod NodeLemmas
mod Kept
mod KeptKeys
mod KeptUniques
mod KeptNames
mod KeptCases
pub mod Lawful
mod TwinLemmas
mod SeenTwins
pub mod AlikeLemmas
mod Worked
