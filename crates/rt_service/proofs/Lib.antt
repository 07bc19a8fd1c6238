mod TreeLemmas
mod PointerLemmas
mod ReturnLemmas
mod AdmittedLemmas
mod WidthLemmas
mod CallLemmas
mod FillLemmas
mod KeptLemmas
pub mod LeadLemmas
pub mod ServiceLemmas
mod ReplyLemmas
pub mod QuietLemmas
mod PairLemmas
mod SpelledLemmas
mod SlotLemmas
