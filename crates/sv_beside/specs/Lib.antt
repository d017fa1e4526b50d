pub mod BesideTerms
