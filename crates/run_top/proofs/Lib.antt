pub mod OneTurn
pub mod Follows
pub mod TurnKinds
pub mod OneThread
pub mod Running
pub mod AllRuns
pub mod Image
pub mod Bound
pub mod Clauses
mod SpelledLemmas
mod PutLemmas
mod RefuseLemmas
mod FormLemmas
pub mod Deepest
mod TextLemmas
mod MeantLemmas
