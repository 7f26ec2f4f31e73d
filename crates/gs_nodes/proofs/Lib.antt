mod Delivered
pub mod Closing
pub mod Finding
pub mod Starting
pub mod Surviving
