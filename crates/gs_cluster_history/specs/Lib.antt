pub mod Coding
pub mod Histories
pub mod Logs
pub mod Merging
pub mod Setting
pub mod Laws
