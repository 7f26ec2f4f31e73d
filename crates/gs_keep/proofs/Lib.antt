pub mod Weaken
pub mod Batches
pub mod Lines
pub mod Running
pub mod Logs
pub mod Rounds
pub mod Replaying
pub mod Going
pub mod Standings
mod Own
mod Behind
