pub mod ElementaryTypes
pub mod ElementaryTables
pub mod DeclaredTypes
