pub mod RuleParts
pub mod PatternsOfRules
pub mod RulesOfPatterns
pub mod RuleLaw
pub mod FewPremises
pub mod Gathering
pub mod Comparing
pub mod Congruence
