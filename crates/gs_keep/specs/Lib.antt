pub mod Lines
pub mod Running
pub mod Sending
pub mod Serving
pub mod Replaying
pub mod Keeping
pub mod Starting
pub mod Behind
