pub mod lasting
pub mod steady
pub mod worlds
