pub mod Rooms
pub mod Needs
pub mod HeldRooms
pub mod RoomLaws
