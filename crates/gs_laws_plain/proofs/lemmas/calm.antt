pub mod Bare
pub mod Answered
pub mod Going
pub mod Trees
pub mod Asking
pub mod Preparing
pub mod Returning
