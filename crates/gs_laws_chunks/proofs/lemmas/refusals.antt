pub mod Addressed
pub mod Refused
pub mod Told
