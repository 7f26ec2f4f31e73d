pub mod Encoding
pub mod Writable
pub mod Reading
pub mod Laws
