pub mod Groups
pub mod Settlings
pub mod Tallies
