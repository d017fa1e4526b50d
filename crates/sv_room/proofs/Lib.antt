pub mod Capping
pub mod Totals
pub mod Enough
pub mod Leaving
