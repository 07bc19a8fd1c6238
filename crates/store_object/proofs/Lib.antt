pub mod HeldLemmas
pub mod StoreLaws
pub mod Histories
