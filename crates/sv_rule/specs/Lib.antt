pub mod RuleFaults
