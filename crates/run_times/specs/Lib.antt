pub mod Axis
pub mod Bars
pub mod ClockTexts
pub mod Endings
pub mod Escape
pub mod Told
pub mod Written
