pub mod Asking
pub mod Orders
pub mod Stores
