pub mod Choosing
pub mod Answering
pub mod Bounding
mod ByHand
pub mod ColumnLists
mod Combining
pub mod Entering
pub mod Forces
pub mod Dividing
pub mod Lasts
pub mod NewRows
pub mod Making
pub mod NearPoints
mod Places
pub mod Gathering
mod Saturation
