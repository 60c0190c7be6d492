pub mod AskLemmas
pub mod OrdersLemmas
