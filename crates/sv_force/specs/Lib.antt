pub mod InForce
pub mod Codes
pub mod Slots
