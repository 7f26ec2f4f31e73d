pub mod Meeting
pub mod Plain
pub mod Laws
pub mod Room
