pub mod FoundLemmas
pub mod CollectedLemmas
pub mod FedLemmas
pub mod KnownLemmas
