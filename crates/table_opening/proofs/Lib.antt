pub mod OpeningsLemmas
