pub mod TermTrees
pub mod TermRooms
