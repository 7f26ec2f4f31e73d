pub mod Unled
pub mod Looked
