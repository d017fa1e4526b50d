pub mod UnitSites
