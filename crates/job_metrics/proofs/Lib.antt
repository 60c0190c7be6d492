pub mod SamplesLemmas
