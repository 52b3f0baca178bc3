pub mod Showing
pub mod Inputs
pub mod AnswersFound
pub mod PicturesWritten
