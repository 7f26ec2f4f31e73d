pub mod Roles
pub mod Stores
pub mod Laws
