pub mod Records
pub mod Turns
pub mod Checkpoints
pub mod Leaving
pub mod Looks
pub mod Commits
