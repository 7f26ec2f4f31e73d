pub mod Due
pub mod Images
pub mod Promises
