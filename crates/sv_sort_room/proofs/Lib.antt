pub mod Building
pub mod CellTrees
pub mod Seeking
