pub mod MarkLemmas
pub mod StepLemmas
pub mod TurnLemmas
pub mod ChunkLemmas
pub mod ChunkReads
pub mod StreamLemmas
pub mod ReplyLemmas
pub mod WriteLemmas
pub mod RunLemmas
pub mod ReadingLemmas
pub mod AnswerLemmas
pub mod BadLemmas
pub mod OneLemmas
pub mod BoundLemmas
pub mod FrameLemmas
mod Worked
