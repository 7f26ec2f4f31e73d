pub mod Following
pub mod Located
