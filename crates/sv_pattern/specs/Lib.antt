pub mod TermKinds
pub mod Patterns
pub mod NodeOpenings
pub mod Bounds
