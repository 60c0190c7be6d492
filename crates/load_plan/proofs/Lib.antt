pub mod PlanLemmas
pub mod LawLemmas
pub mod AfterLemmas
pub mod StepsLemmas
pub mod MoveLemmas
pub mod OrderLemmas
