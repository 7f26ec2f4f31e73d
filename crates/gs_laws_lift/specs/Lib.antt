pub mod calls
pub mod copies
pub mod stores
