pub mod AnswersUnit
pub mod UnitWords
