pub mod NumberLists
pub mod Spans
