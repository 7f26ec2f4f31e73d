pub mod Dialogues
pub mod Clients
pub mod Exchanges
pub mod Running
pub mod Lines
pub mod Scripts
