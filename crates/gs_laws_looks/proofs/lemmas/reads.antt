pub mod Stepping
pub mod Halting
pub mod Reading
pub mod Twice
