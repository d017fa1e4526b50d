pub mod Openings
pub mod AnnotationLanguage
