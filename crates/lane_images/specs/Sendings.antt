-- What a sender's moves do to the numbers of its buffers.
-- Source: docs/FORMATS.md, "Ring lines".
use Rattle.std.specs.Prelude.{ℕ, List, map, length}
use Rattle.lane_end.specs.SendMoves.{SendMove, Looked, Sent}
use Rattle.ring_numbers.specs.SenderNumbers.{Numbers, Sending, puts, comes_back, at_start, after_all}

abbrev pub sending_of : SendMove → Sending
sending_of (Looked n) = comes_back n
sending_of (Sent frame) = puts (length frame)

abbrev pub sendings : List SendMove → List Sending
sendings moves = map sending_of moves

-- the numbers of the buffers after these moves, by the places of the frames whose buffers the receiver gives back
abbrev pub numbers_after : ℕ → List ℕ → List SendMove → Numbers
numbers_after size places moves = after_all (at_start size places) (sendings moves)
