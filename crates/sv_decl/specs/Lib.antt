pub mod TypePieces
pub mod DeclaredParts
pub mod Declarations
