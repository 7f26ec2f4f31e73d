pub mod Rooms
pub mod RoomsOfCalls
pub mod RoomsOfTurns
