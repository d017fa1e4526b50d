pub mod OpenBranches
pub mod Stacks
pub mod BranchTrees
pub mod BranchLaws
