pub mod EntriesLemmas
pub mod FaultsLemmas
