-- What the crate's own functions say of one another's work. No clause of a public call cites these files.
pub mod Reading
pub mod Told
pub mod Work
