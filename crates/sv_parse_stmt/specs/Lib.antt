pub mod Branches
pub mod StmtParts
pub mod StmtWords
