pub mod JumpLemmas
pub mod ProductLemmas
