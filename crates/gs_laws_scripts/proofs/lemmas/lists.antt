pub mod Dialogues
pub mod Lines
pub mod Texts
pub mod Scripts
pub mod Listing
