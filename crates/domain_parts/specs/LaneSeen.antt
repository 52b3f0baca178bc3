-- What is seen of the two ends towards a peer, and what each move leaves of it.
-- Source: docs/PROFILE.md, "Lanes".
use Rattle.std.specs.Prelude.{ℕ, ◌+◌, ◌-◌, List, [], ◌∷◌, ◌++◌}
use Rattle.lane_end.specs.SendMoves.{Sent}
use Rattle.lane_end.specs.SendMoves as sending
use Rattle.lane_end.specs.ReceiveMoves.{Gave, Took}
use Rattle.lane_end.specs.ReceiveMoves as receiving
use Rattle.lane_end.specs.ReceiverContract.{without}
use Rattle.domain_parts.specs.LaneMoves.{LaneMove, sender, receiver}

-- how many buffers the lane to the peer has, and the lane from it; how many buffers are free to be put; how many frames are shown and
-- not taken; and the numbers of the buffers that were taken and not given back
pub record LaneSeen : Type 0 where
  pub size_to : ℕ
  pub size_from : ℕ
  pub free : ℕ
  pub shown : ℕ
  pub out : List ℕ

-- A look at the buffers that came back makes as many free as it showed, and a put uses one. A look at the frames shows so many; one
-- that is taken is shown no more and out, and one given back is out no more
abbrev pub after_move : LaneMove → LaneSeen → LaneSeen
after_move (sender (sending.Looked n)) l = record l { free = l.free + n }
after_move (sender (Sent frame)) l = record l { free = l.free - 1 }
after_move (receiver (receiving.Looked n)) l = record l { shown = n }
after_move (receiver (Took n frame)) l = record l { shown = l.shown - 1; out = l.out ++ n ∷ [] }
after_move (receiver (Gave n)) l = record l { out = without n l.out }

abbrev pub after_moves : List LaneMove → LaneSeen → LaneSeen
after_moves [] l = l
after_moves (m ∷ ms) l = after_moves ms (after_move m l)
