pub mod Order
pub mod Needs
pub mod Targets
pub mod Offered
