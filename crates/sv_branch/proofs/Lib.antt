pub mod Stacking
pub mod Carrying
pub mod Asking
