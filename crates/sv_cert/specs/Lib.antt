pub mod LogText
pub mod LogTextLaws
pub mod PlainNodes
pub mod PlainLogs
pub mod LogReading
pub mod LogSteps
pub mod SortSteps
pub mod LogAnswers
