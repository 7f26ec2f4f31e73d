pub mod Unheld
pub mod Going
pub mod Reading
