mod Answered
mod Served
mod Stepping
pub mod Turns
