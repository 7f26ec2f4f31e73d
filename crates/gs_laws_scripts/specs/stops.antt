pub mod Given
pub mod Stopped
