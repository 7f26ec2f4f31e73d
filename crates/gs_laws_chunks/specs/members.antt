pub mod Bytes
pub mod Leaving
