pub mod DrawLemmas
pub mod Following
pub mod LastLemmas
pub mod LiveLemmas
