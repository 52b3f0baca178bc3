pub mod LineLemmas
pub mod CallTexts
pub mod OutcomeTexts
