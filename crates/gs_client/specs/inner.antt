-- What the crate's own functions say of one another's work. No clause of a public call cites this file.
pub mod Asks
