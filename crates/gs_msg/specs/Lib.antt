pub mod Bodies
pub mod Kinds
mod MessageRows
pub mod MessageTexts
pub mod Nodes
pub mod Ops
pub mod Posts
pub mod Texts
