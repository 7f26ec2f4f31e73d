mod Counting
mod Deep
pub mod Granting
mod Healing
mod HeldUp
mod Losing
mod Quieting
pub mod Renewals
pub mod Still
pub mod Targets
pub mod Waits
