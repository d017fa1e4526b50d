pub mod RuleRows
pub mod ItemFacts
