pub mod Children
pub mod Counting
pub mod Ending
pub mod Kept
pub mod Looks
pub mod Rounds
pub mod Observing
pub mod Waiting
