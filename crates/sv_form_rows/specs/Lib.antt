pub mod TermForms
pub mod Listings
pub mod Questions
