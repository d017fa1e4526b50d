pub mod Below
pub mod Bounds
pub mod Crossing
mod Examples
pub mod Scales
pub mod Worths
