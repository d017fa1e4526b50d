pub mod BaseNumbers
