pub mod CountLemmas
pub mod KindsLemmas
pub mod JsonLemmas
pub mod NumbersLemmas
pub mod JsonReadingLemmas
