-- What a plain sender holds, and where its moves lead.
-- Source: docs/PROFILE.md, "Lanes".
use Rattle.std.specs.Prelude.{◌≡◌, ℕ, ◌<◌, List, [], ◌∷◌, ◌++◌, length, drop, slice_index}
use Rattle.lane_end.specs.Moves.{Lead}
use Rattle.lane_end.specs.SendMoves.{SendMove, Looked, Sent}

-- the numbers of the free buffers, the frames put and not shuttled with their buffers' numbers, and the numbers that
-- came back and were not shown
pub record Sender : Type 0 where
  pub size : ℕ
  pub free : List ℕ
  pub put : List (ℕ × List ℕ)
  pub back : List ℕ

-- a look shows all buffers that came back, and a put needs a free buffer
abbrev pub MaySend : Sender → SendMove → Type 0
MaySend s (Looked n) = n ≡ length s.back
MaySend s (Sent frame) = 0 < length s.free

-- a look appends the buffers that came back to the free ones, and a put uses the first free buffer
abbrev pub sender_after : Sender → SendMove → Sender
sender_after s (Looked n) = record s { free = s.free ++ s.back; back = [] }
sender_after s (Sent frame) = record s { free = drop 1 s.free; put = s.put ++ (slice_index s.free 0, frame) ∷ [] }

abbrev pub Sends : Sender → List SendMove → Sender → Type 0
Sends old moves new = Lead MaySend sender_after old moves new
