pub mod NameUses
pub mod NameBook
