pub mod TermRows
pub mod NodeCodes
pub mod TermKeeping
