pub mod Images
pub mod Refused
pub mod Promises
pub mod inner
