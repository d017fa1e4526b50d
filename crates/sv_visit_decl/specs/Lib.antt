pub mod DeclSites
