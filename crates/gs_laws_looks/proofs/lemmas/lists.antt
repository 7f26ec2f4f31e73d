pub mod Commits
pub mod Rising
pub mod Listed
