pub mod FindLemmas
pub mod NamesLemmas
pub mod Sample
pub mod SampleNames
pub mod CanonicalLemmas
pub mod TreesLemmas
pub mod TypeExamples
