pub mod Answers
pub mod Encoding
pub mod Extended
pub mod Order
pub mod Plain
pub mod Rows
pub mod Writable
pub mod inner
