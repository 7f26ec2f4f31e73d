pub mod Asking
pub mod Enduring
pub mod Refusing
pub mod Saying
pub mod Steady
pub mod Through
pub mod Unarmed
pub mod Laws
