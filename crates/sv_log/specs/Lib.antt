pub mod LogEntries
pub mod LogRows
pub mod FormsOfTerms
pub mod Logs
pub mod LogCauses
pub mod LogLaws
