pub mod Forming
pub mod Growing
pub mod NextNodes
pub mod Telling
