pub mod Lists
pub mod Listed
pub mod Numbers
pub mod Rows
pub mod Members
pub mod Ending
pub mod Seeding
pub mod Refused
pub mod Hearing
pub mod Moving
pub mod Ended
pub mod Answered
mod Clients
pub mod Ordered
pub mod Senders
pub mod SentBy
pub mod Noted
