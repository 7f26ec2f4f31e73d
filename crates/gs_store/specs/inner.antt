-- What the crate's own functions say of one another's work. No clause of a public call cites these files.
pub mod Cached
pub mod Placed
pub mod Rooms
