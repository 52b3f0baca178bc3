-- What a domain did at its two ends towards one peer, move by move.
-- Source: docs/PROFILE.md, "Lanes". The moves of both ends stand in one list, in the order in which they were made.
use Rattle.std.specs.Prelude.{List, [], ◌∷◌}
use Rattle.lane_end.specs.SendMoves.{SendMove}
use Rattle.lane_end.specs.ReceiveMoves.{ReceiveMove}

-- a move of the sending end, and one of the receiving end
pub data LaneMove : Type 0 where
  sender : SendMove → LaneMove
  receiver : ReceiveMove → LaneMove

-- those of each end
abbrev pub sends : List LaneMove → List SendMove
sends [] = []
sends (sender m ∷ ms) = m ∷ sends ms
sends (receiver m ∷ ms) = sends ms

abbrev pub receives : List LaneMove → List ReceiveMove
receives [] = []
receives (sender m ∷ ms) = receives ms
receives (receiver m ∷ ms) = m ∷ receives ms
