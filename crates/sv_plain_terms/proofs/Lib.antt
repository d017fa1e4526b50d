pub mod FittingSorts
pub mod FlagsOfTerms
pub mod FlagsBelow
