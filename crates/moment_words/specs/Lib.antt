pub mod Shown
pub mod Meant
pub mod Read
pub mod Written
pub mod Dates
