mod Moves
mod Settling
