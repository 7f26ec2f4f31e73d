pub mod CopyingCalls
pub mod CopyingTurns
