pub mod DefFaults
pub mod Json
pub mod Names
pub mod JsonKinds
pub mod Digits
