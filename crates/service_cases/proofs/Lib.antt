pub mod CountLemmas
pub mod ServingLemmas
