pub mod Arming
pub mod Crashing
pub mod Happenings
pub mod NewDisks
pub mod Nodes
