pub mod Tables
pub mod Members
pub mod Merging
pub mod Reaching
pub mod Agreeing
