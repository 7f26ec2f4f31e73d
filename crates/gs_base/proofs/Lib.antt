pub mod Bits
pub mod Listed
pub mod SameLaws
pub mod Tells
mod ToldBack
