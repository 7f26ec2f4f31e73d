pub mod Forwarding
pub mod Leases
pub mod Numbering
pub mod Recencies
