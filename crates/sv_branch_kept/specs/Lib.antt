pub mod KeptBranches
