pub mod Paths
pub mod Searches
pub mod Strips
