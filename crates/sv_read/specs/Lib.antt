pub mod TokenClasses
pub mod Here
pub mod PartReading
pub mod Nesting
pub mod EitherTree
pub mod FilledParts
pub mod Choosing
