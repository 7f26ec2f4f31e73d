pub mod Disk
pub mod Stage
