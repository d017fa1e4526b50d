pub mod Least
pub mod Breaching
