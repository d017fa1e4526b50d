mod Examples
pub mod Ifs
