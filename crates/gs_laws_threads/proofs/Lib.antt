mod Telling
mod Turns
mod Callers
