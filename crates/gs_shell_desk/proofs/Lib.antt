mod Answered
mod Delivering
mod Doing
mod Ended
mod Stepping
mod Together
