pub mod LineTables
pub mod LineLaws
