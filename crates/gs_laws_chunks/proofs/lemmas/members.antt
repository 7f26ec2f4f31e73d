pub mod Named
pub mod Texts
pub mod Left
pub mod Bytes
