pub mod EntryJudging
