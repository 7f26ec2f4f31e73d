pub mod Sending
pub mod Asking
pub mod Coming
pub mod Fetched
