pub mod Walks
pub mod Books
pub mod Visits
pub mod VisitLaws
