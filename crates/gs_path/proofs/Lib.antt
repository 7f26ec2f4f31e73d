pub mod ElementLemmas
pub mod Front
pub mod PathLemmas
pub mod Readable
