pub mod Sets
pub mod Theory
pub mod Exactly
pub mod Checks
pub mod Trees
pub mod Loops
pub mod Reaches
pub mod Extents
pub mod Named
pub mod Tests
pub mod Tested
pub mod Criteria
mod Example
pub mod InStep
