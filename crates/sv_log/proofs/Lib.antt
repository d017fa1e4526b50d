pub mod Amounts
pub mod FormAmounts
pub mod Soundness
