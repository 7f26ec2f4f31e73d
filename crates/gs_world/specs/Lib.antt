pub mod Beginning
pub mod Crashing
pub mod Histories
pub mod Laws
pub mod Outcomes
pub mod Runs
pub mod Sent
