mod Bits
mod Changed
pub mod Filtered
mod Grouped
