pub mod Heirs
pub mod Sooner
