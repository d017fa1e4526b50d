pub mod Verdicts
pub mod LongRuns
pub mod CannotFail
