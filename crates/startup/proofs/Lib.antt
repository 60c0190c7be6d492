pub mod MediumLemmas
