pub mod Serving
pub mod Dialogues
pub mod Clients
pub mod Exchanges
pub mod Lives
