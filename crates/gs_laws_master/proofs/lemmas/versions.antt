pub mod Fresh
pub mod FreshCalls
pub mod FreshTurns
