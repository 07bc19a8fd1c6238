pub mod GrowthLemmas
pub mod FetchLemmas
