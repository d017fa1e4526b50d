pub mod Columns
pub mod Deciding
