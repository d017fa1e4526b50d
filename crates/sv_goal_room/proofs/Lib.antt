pub mod GoalOrder
pub mod NodesByNumber
pub mod SortsAdded
pub mod Putting
pub mod Filling
