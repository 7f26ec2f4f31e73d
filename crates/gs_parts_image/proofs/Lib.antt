pub mod Heads
pub mod Loops
pub mod Stores
