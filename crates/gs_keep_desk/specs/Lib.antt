pub mod Looks
pub mod Ticks
pub mod Names
pub mod Keeps
