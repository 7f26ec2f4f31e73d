pub mod Choice
pub mod Spoken
