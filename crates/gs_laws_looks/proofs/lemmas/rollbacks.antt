pub mod Lists
pub mod Unled
pub mod Readings
