-- The frames that came, how many of them are shown, and the numbers of the buffers that were taken.
-- Source: docs/PROFILE.md, "Lanes".
use Rattle.std.specs.Prelude.{ℕ, ◌-◌, List, [], ◌∷◌, ◌++◌, length, drop}
use Rattle.lane_end.specs.ReceiverContract.{without}

-- a frame has the number of its buffer beside it
pub record Arrived : Type 0 where
  pub size : ℕ
  pub came : List (ℕ × List ℕ)
  pub shown : ℕ
  pub out : List ℕ

abbrev pub none_arrived : ℕ → Arrived
none_arrived size = record { size = size; came = []; shown = 0; out = [] }

abbrev pub all_shown : Arrived → Arrived
all_shown a = record a { shown = length a.came }

-- the first frame is taken, in the buffer n
abbrev pub first_taken : Arrived → ℕ → Arrived
first_taken a n = record a { came = drop 1 a.came; shown = a.shown - 1; out = a.out ++ n ∷ [] }

abbrev pub without_out : Arrived → ℕ → Arrived
without_out a n = record a { out = without n a.out }

abbrev pub with_frames : Arrived → List (ℕ × List ℕ) → Arrived
with_frames a frames = record a { came = a.came ++ frames }
