pub mod Ways
pub mod Replies
pub mod Looking
pub mod Reading
pub mod Writing
pub mod Carrying
pub mod Calls
pub mod Lines
