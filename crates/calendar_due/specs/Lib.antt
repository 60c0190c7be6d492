pub mod Minute
pub mod Offsets
pub mod Zone
pub mod ZoneRules
pub mod Changes
pub mod Days
pub mod Next
