pub mod Searching
pub mod Following
pub mod Returning
pub mod Stripping
