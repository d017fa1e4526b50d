pub mod FormedProofs
pub mod LabelLemmas
pub mod LabelOrders
pub mod Walked
