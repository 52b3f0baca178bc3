pub mod Expected
pub mod Answers
pub mod Outcomes
