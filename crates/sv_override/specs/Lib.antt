pub mod Overrides
pub mod Overloads
