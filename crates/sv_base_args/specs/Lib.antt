pub mod BaseArguments
