mod EffectLemmas
pub mod DepthLemmas
mod PassLemmas
mod MarkLemmas
mod FaultLemmas
