pub mod Asked
pub mod Told
pub mod One
pub mod Reached
pub mod Fresh
