pub mod Finishing
pub mod Journaled
pub mod Masters
pub mod Recovering
pub mod Starting
pub mod Crashing
pub mod Ticking
pub mod inner
