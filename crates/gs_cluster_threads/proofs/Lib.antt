mod Ears
pub mod Hosting
mod Joining
mod Matching
mod Places
