pub mod CausesLemmas
pub mod EndedLemmas
pub mod FactsLemmas
pub mod ReceivingLemmas
pub mod LineLemmas
pub mod ObjectsLemmas
pub mod ReadingLemmas
mod ShownLemmas
