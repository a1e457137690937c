pub mod Constants
pub mod RoomFacts
