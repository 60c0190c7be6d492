pub mod Clocks
pub mod Failing
pub mod Passed
pub mod Rows
pub mod Samples
pub mod Starts
pub mod Throttles
