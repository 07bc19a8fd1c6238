mod KindLemmas
mod AdmittedLemmas
mod LayingLemmas
mod StackLemmas
pub mod PlaceLemmas
pub mod HeldLemmas
