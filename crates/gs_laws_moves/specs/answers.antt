pub mod AtOnce
pub mod Changes
pub mod Concerned
pub mod Resting
