pub mod Reached
pub mod Within
pub mod Laws
