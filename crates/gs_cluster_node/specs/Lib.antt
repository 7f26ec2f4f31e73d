pub mod Nodes
pub mod inner
