pub mod NormalLaws
