pub mod TreeLemmas
pub mod VariablesLemmas
pub mod PositionsLemmas
pub mod SubstitutionLemmas
pub mod PrintedLemmas
pub mod SameLemmas
