pub mod Making
pub mod Standard
