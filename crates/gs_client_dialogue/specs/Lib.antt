pub mod Dialogues
pub mod Heard
