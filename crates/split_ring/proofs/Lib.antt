pub mod EndLemmas
pub mod HeldLemmas
pub mod FinishLemmas
pub mod LengthLemmas
