pub mod Lines
mod Texts
mod Starts
mod Same
