pub mod Indexes
pub mod Locks
pub mod Operations
pub mod Tallies
