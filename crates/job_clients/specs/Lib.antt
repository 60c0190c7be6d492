pub mod Places
pub mod Callers
pub mod Crowds
