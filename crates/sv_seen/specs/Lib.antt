pub mod NameMeanings
