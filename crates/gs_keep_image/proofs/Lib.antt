pub mod Again
pub mod Ends
pub mod Told
