pub mod Plan
pub mod Laws
pub mod Texts
pub mod Requests
