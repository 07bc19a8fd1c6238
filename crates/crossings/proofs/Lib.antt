pub mod LyingLemmas
pub mod CopyLemmas
pub mod ArrivalLemmas
pub mod EnterLemmas
pub mod ReturnLemmas
