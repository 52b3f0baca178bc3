pub mod PieceLoops
mod LaneLists
