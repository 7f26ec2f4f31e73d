pub mod Calling
pub mod Answered
pub mod Finished
pub mod Linked
pub mod Opened
pub mod Laws
pub mod inner
