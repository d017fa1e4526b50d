pub mod FormKnown
pub mod SitePlaces
pub mod FormBases
pub mod FormRules
