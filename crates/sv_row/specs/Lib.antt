pub mod Multipliers
pub mod RowParts
pub mod SumSteps
