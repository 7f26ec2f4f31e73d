-- What this crate's own functions say of one another's work. No clause of the public call cites these files.
pub mod Texts
