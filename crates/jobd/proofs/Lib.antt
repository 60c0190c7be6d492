pub mod NewsLemmas
pub mod KillWaitsLemmas
