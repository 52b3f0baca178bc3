pub mod Statuses
pub mod RefusedCalls
pub mod Words
pub mod Asked
pub mod ExpectedAnswers
pub mod Drawn
pub mod Drawing
