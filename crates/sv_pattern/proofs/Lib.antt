pub mod NumberedTrees
pub mod Taking
pub mod Bounding
