pub mod AnswerText
pub mod AnswersRead
pub mod BytesRead
pub mod Cuts
pub mod DigitsAlone
mod DigitsRead
pub mod DoneRead
pub mod Journals
pub mod LinesRead
mod PairsSpelled
pub mod PartsRead
pub mod RefusalsAlone
pub mod ResultsRead
pub mod SameWords
pub mod Standing
