pub mod GoalNumbers
