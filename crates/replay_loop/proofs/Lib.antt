pub mod BooleanLemmas
pub mod HandlingLemmas
pub mod ReadingLemmas
