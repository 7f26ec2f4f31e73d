pub mod AtOnce
pub mod Entries
pub mod Kept
pub mod Plans
pub mod Answering
pub mod Concerning
pub mod Resting
pub mod Changes
