pub mod Measure
pub mod Steps
pub mod Extent
pub mod Tail
