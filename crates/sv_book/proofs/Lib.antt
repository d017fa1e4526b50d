mod Examples
pub mod Finds
