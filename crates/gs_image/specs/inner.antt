pub mod Held
pub mod Found
