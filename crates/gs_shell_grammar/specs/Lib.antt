pub mod Grammar
pub mod Operands
mod Rows
