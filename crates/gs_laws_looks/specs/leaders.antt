pub mod Unled
