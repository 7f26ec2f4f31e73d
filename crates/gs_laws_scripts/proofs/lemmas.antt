pub mod answers
pub mod explained
pub mod lists
pub mod plain
pub mod reads
pub mod runs
pub mod stops
