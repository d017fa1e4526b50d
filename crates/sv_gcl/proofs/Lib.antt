pub mod Unset
pub mod WorkedRuns
