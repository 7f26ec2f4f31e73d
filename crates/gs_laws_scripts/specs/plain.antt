pub mod Machines
pub mod Rows
pub mod Scripts
