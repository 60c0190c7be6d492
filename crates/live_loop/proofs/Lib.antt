pub mod LooksLemmas
pub mod RoundsLemmas
pub mod ChildrenLemmas
pub mod CountingLemmas
