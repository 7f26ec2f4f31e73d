pub mod Waited
pub mod Replies
pub mod Steady
