pub mod Retold
pub mod Spelled
pub mod Texted
pub mod Spelling
pub mod SpelledNames
