pub mod IntervalLemmas
