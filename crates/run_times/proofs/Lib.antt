pub mod AxisLemmas
pub mod BarsLemmas
pub mod ClockLemmas
pub mod GrowingLemmas
pub mod NextRunLemmas
pub mod WrittenLemmas
