pub mod Rivals
pub mod RivalWords
