pub mod Renewable
pub mod inner
