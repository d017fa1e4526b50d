pub mod Writing
pub mod BankHistories
pub mod PointerHistories
pub mod CallHistories
pub mod ContractHistories
pub mod Verdicts
pub mod LongVerdicts
pub mod HeldVerdicts
