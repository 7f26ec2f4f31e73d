pub mod Gathered
pub mod Wired
pub mod inner
