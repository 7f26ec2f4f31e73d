-- What the functions of this crate and of those of the same owner say of one another's work: no law and no clause that a user of the
-- master reads cites these files.
pub mod Codes
pub mod Held
pub mod Judging
pub mod Knowing
pub mod Leases
pub mod Memories
pub mod Places
pub mod Plans
pub mod Recorded
pub mod Released
pub mod Replaying
pub mod Reversing
pub mod Room
pub mod Surveying
pub mod TakingBack
pub mod ToldNumbers
pub mod Tracked
pub mod Trying
