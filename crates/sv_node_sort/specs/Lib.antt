pub mod NeededSorts
