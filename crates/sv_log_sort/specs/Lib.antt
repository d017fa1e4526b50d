pub mod TakenSorts
