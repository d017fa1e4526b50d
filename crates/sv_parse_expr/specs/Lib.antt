pub mod Given
pub mod Answers
pub mod Inner
pub mod Exact
pub mod PostParts
pub mod ExprWords
