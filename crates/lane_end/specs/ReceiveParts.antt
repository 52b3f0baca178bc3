-- The parts of what a receiving end did.
-- Source: docs/PROFILE.md, "Lanes".
use Rattle.std.specs.Prelude.{ℕ, ◌+◌, ◌≤◌, List, [], ◌∷◌}
use Rattle.lane_end.specs.ReceiveMoves.{ReceiveMove, Looked, Took, Gave}

-- the frames that were taken, each with its buffer's number
abbrev pub frames_taken : List ReceiveMove → List (ℕ × List ℕ)
frames_taken [] = []
frames_taken (Looked n ∷ moves) = frames_taken moves
frames_taken (Took n frame ∷ moves) = (n, frame) ∷ frames_taken moves
frames_taken (Gave n ∷ moves) = frames_taken moves

-- the numbers of the buffers that were given back
abbrev pub numbers_given : List ReceiveMove → List ℕ
numbers_given [] = []
numbers_given (Looked n ∷ moves) = numbers_given moves
numbers_given (Took n frame ∷ moves) = numbers_given moves
numbers_given (Gave n ∷ moves) = n ∷ numbers_given moves

-- how many frames each look showed
abbrev pub see_counts : List ReceiveMove → List ℕ
see_counts [] = []
see_counts (Looked n ∷ moves) = n ∷ see_counts moves
see_counts (Took n frame ∷ moves) = see_counts moves
see_counts (Gave n ∷ moves) = see_counts moves

-- what each look showed and the frames taken before it are together from `low` to `high`
abbrev pub SeenBetween : ℕ → ℕ → ℕ → List ReceiveMove → Type 0
SeenBetween low high before [] = Unit {0}
SeenBetween low high before (Looked n ∷ moves) = (low ≤ before + n) × (before + n ≤ high) × SeenBetween low high before moves
SeenBetween low high before (Took n frame ∷ moves) = SeenBetween low high (before + 1) moves
SeenBetween low high before (Gave n ∷ moves) = SeenBetween low high before moves
