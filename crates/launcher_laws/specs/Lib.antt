pub mod TurnRuns
pub mod Lasting
pub mod Replays
