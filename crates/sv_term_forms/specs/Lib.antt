pub mod FormLists
pub mod NextTerms
pub mod KeptNodes
