pub mod Chunks
pub mod Primary
pub mod Promises
pub mod Told
pub mod Transitions
pub mod Views
