pub mod Looked
pub mod Unled
