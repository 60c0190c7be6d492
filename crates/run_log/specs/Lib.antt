pub mod Told
pub mod Search
pub mod Kept
pub mod AfterItem
pub mod Shown
