pub mod MeaningLemmas
pub mod RulesLemmas
