-- What the crate's own functions say of one another's work. No clause of a public call cites these files.
pub mod Rooms
pub mod Answering
pub mod Applying
pub mod Again
pub mod Learning
pub mod Spending
pub mod Numbering
pub mod Kinds
pub mod Hearing
