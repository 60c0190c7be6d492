pub mod Launches
pub mod Ended
pub mod Found
pub mod KillWaits
pub mod Standings
