mod Happening
pub mod Placing
mod Running
pub mod Sending
mod Starting
