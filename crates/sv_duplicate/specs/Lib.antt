pub mod Duplicates
pub mod DuplicateMembers
