pub mod Conflicts
pub mod Indexed
pub mod Ways
