pub mod Named
pub mod Unled
pub mod Commits
pub mod Looked
