pub mod Clients
pub mod Refusals
pub mod Servers
