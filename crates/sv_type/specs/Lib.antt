pub mod TypeParts
pub mod Shapes
pub mod StorageTrees
pub mod TypedTrees
pub mod Memory
