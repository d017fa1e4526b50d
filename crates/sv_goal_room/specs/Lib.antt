pub mod GoalRooms
pub mod GoalFilling
