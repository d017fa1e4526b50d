mod Comparing
pub mod Integers
pub mod Reducing
mod Steps
