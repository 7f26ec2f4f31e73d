pub mod Locking
pub mod Refusing
pub mod Wanting
