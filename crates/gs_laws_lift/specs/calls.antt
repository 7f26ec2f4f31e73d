pub mod Waits
pub mod Told
pub mod Recorded
pub mod Ended
pub mod Events
