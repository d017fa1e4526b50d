pub mod RowSums
pub mod Columns
