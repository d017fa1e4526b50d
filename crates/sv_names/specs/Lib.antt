pub mod NameState
