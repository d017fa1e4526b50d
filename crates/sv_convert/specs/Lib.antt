pub mod Conversions
pub mod OperatorTypes
