pub mod Fetched
