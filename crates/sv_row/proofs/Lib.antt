mod Calls
mod Divisions
mod Euclid
mod Least
pub mod Sums
