pub mod PlanLemmas
pub mod MadeLemmas
