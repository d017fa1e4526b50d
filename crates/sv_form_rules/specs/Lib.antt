pub mod NameTexts
pub mod NodeRules
pub mod HeadWords
