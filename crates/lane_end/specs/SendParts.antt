-- The parts of what a sending end did.
-- Source: docs/PROFILE.md, "Lanes".
use Rattle.std.specs.Prelude.{ℕ, ◌+◌, ◌≤◌, List, [], ◌∷◌}
use Rattle.lane_end.specs.SendMoves.{SendMove, Looked, Sent}

-- the frames that were put
abbrev pub frames_sent : List SendMove → List (List ℕ)
frames_sent [] = []
frames_sent (Looked n ∷ moves) = frames_sent moves
frames_sent (Sent frame ∷ moves) = frame ∷ frames_sent moves

-- how many buffers each look showed
abbrev pub back_counts : List SendMove → List ℕ
back_counts [] = []
back_counts (Looked n ∷ moves) = n ∷ back_counts moves
back_counts (Sent frame ∷ moves) = back_counts moves

-- what each look showed and what looks showed before it are together from `low` to `high`
abbrev pub BackBetween : ℕ → ℕ → ℕ → List SendMove → Type 0
BackBetween low high before [] = Unit {0}
BackBetween low high before (Looked n ∷ moves) = (low ≤ before + n) × (before + n ≤ high) × BackBetween low high (before + n) moves
BackBetween low high before (Sent frame ∷ moves) = BackBetween low high before moves
