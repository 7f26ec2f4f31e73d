pub mod refusals
pub mod servers
