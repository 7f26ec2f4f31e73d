pub mod Seen
pub mod Going
pub mod Slots
pub mod Laws
