pub mod RoomCounts
