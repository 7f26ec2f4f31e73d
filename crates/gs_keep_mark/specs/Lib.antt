pub mod Marks
pub mod Ledgers
pub mod Started
pub mod Before
