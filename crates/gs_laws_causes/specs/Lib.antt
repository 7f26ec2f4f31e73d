pub mod Causes
pub mod Carried
pub mod Calls
pub mod Examples
pub mod Laws
