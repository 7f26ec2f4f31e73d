pub mod accounts
pub mod answers
pub mod calls
pub mod desks
pub mod members
pub mod refusals
pub mod replicas
