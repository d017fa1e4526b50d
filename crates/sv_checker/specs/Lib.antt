pub mod Checkers
pub mod CheckerLaws
