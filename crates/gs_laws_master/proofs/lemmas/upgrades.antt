pub mod Beginnings
pub mod Committing
pub mod LedBack
pub mod Preparing
pub mod Resting
pub mod RolledBack
pub mod Rolling
