pub mod ReadSoFar
pub mod Restored
