pub mod Stores
pub mod Encoding
pub mod Writable
pub mod Reading
pub mod Work
