pub mod Words
pub mod Splitting
pub mod Names
pub mod Numbers
pub mod Behind
