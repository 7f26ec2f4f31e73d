pub mod Editing
pub mod Calling
pub mod Following
pub mod Refusing
pub mod Waiting
pub mod Sealing
pub mod Counted
pub mod Laws
