pub mod PieceSteps
mod MembersFront
