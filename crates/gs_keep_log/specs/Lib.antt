pub mod Log
pub mod Memory
