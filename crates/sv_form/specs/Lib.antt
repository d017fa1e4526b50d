pub mod Joins
pub mod Nodes
pub mod TermWeights
