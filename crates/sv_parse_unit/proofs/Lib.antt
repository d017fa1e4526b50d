pub mod FirstSets
pub mod LeftOut
pub mod Whole
