pub mod CallsLemmas
mod RoomExamples
mod VariableLemmas
mod RepliesLemmas
mod PlacesLemmas
