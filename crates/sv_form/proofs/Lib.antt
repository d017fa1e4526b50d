pub mod Weighing
pub mod Settling
