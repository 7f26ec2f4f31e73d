pub mod Reached
pub mod Starting
