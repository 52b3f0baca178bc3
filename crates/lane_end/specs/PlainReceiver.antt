-- What a plain receiver holds, and where its moves lead.
-- Source: docs/PROFILE.md, "Lanes".
use Rattle.std.specs.Prelude.{◌≡◌, ℕ, ◌<◌, ◌-◌, List, [], ◌∷◌, ◌++◌, length, drop, slice_get, Some, Contains}
use Rattle.lane_end.specs.Moves.{Lead}
use Rattle.lane_end.specs.ReceiveMoves.{ReceiveMove, Looked, Took, Gave}
use Rattle.lane_end.specs.ReceiverContract.{without}

-- the frames that came and were not taken, with their buffers' numbers; how many of them are shown; the numbers taken
-- and not given back; and those given back and not shuttled
pub record Receiver : Type 0 where
  pub size : ℕ
  pub came : List (ℕ × List ℕ)
  pub shown : ℕ
  pub out : List ℕ
  pub given : List ℕ

-- a look shows all frames that came, a take is of the oldest of those shown, and a buffer that is given back was out
abbrev pub MayReceive : Receiver → ReceiveMove → Type 0
MayReceive r (Looked n) = n ≡ length r.came
MayReceive r (Took n frame) = (0 < r.shown) × (slice_get r.came 0 ≡ Some (n, frame))
MayReceive r (Gave n) = Contains r.out n

abbrev pub receiver_after : Receiver → ReceiveMove → Receiver
receiver_after r (Looked n) = record r { shown = n }
receiver_after r (Took n frame) = record r { came = drop 1 r.came; shown = r.shown - 1; out = r.out ++ n ∷ [] }
receiver_after r (Gave n) = record r { out = without n r.out; given = r.given ++ n ∷ [] }

abbrev pub Receives : Receiver → List ReceiveMove → Receiver → Type 0
Receives old moves new = Lead MayReceive receiver_after old moves new
