pub mod Carried
pub mod Named
pub mod Names
pub mod Settled
pub mod Tried
