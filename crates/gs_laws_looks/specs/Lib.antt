pub mod carrying
pub mod clients
pub mod fetching
pub mod halts
pub mod leaders
pub mod lists
pub mod reads
pub mod rollbacks
