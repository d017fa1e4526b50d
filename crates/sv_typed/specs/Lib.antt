pub mod TypedLists
