pub mod Files
pub mod Locks
pub mod Keeping
pub mod Waits
pub mod Told
pub mod Recorded
pub mod Ended
pub mod Events
