pub mod Files
pub mod Located
