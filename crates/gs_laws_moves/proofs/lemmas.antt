pub mod answers
pub mod looks
pub mod moves
pub mod upgrades
