pub mod Going
pub mod Reached
