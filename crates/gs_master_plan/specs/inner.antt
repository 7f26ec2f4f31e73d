-- What the functions of this crate and of those of the same owner say of one another's work: no law and no clause that a user of the
-- master reads cites these files.
pub mod Healing
pub mod Holding
pub mod Planning
pub mod Refusing
