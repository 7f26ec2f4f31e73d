pub mod Rollback
pub mod Trash
