mod Applied
mod Forwarded
mod Edited
mod Answered
mod Numbered
mod Counted
mod Made
mod Putting
mod Keeping
mod Spent
mod Rooms
mod NewEdits
mod Telling
mod Others
mod Lifts
pub mod Walks
pub mod Happening
pub mod Behind
pub mod Wholes
pub mod Reached
