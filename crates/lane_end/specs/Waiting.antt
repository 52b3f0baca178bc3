-- The buffers that wait to be put: the free ones, and those that came back and that no look has shown.
-- Source: docs/PROFILE.md, "Lanes".
use Rattle.std.specs.Prelude.{ℕ, List, [], ◌++◌, drop}
use Rattle.lane_end.specs.Numbers.{all_numbers}

pub record Waiting : Type 0 where
  pub size : ℕ
  pub free : List ℕ
  pub back : List ℕ

abbrev pub all_free : ℕ → Waiting
all_free size = record { size = size; free = all_numbers size; back = [] }

-- all that came back are free
abbrev pub all_back_free : Waiting → Waiting
all_back_free w = record w { free = w.free ++ w.back; back = [] }

abbrev pub first_used : Waiting → Waiting
first_used w = record w { free = drop 1 w.free }

abbrev pub with_back : Waiting → List ℕ → Waiting
with_back w numbers = record w { back = w.back ++ numbers }
