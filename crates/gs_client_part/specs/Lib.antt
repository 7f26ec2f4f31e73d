pub mod Fetching
pub mod Numbering
pub mod Reading
pub mod Writing
