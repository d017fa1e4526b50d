pub mod TargetNumbers
