pub mod FactJudging
