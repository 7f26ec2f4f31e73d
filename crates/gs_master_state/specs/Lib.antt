pub mod Checkpoints
pub mod Sane
pub mod inner
