pub mod Options
pub mod Rows
