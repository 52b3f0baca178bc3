-- A source and a sink in memory, as contracts see them.
-- Source: docs/PROFILE.md, "The outside": calls are numbered from 0, and listed ones fail.
use Rattle.std.specs.Prelude.{ℕ, ◌-◌, ◌<◌, ◌==◌, min, List, ◌++◌, length, drop, All, if◌then◌else◌}
use Rattle.outer_io.specs.Faults.{one_more}

-- the bytes left, the calls that fail, the most bytes that a call moves, and the counts of calls, of faults and of the reads
-- that came to the end
pub record ReadState : Type 0 where
  pub left : List ℕ
  pub failing : List ℕ
  pub step : ℕ
  pub calls : ℕ
  pub faults : ℕ
  pub ends : ℕ

-- the bytes written, how many have room, the calls that fail, the most bytes that a call moves, and the counts of calls and
-- of faults
pub record WriteState : Type 0 where
  pub written : List ℕ
  pub room : ℕ
  pub failing : List ℕ
  pub step : ℕ
  pub calls : ℕ
  pub faults : ℕ

-- no listed call comes from now on
abbrev pub NoneListed : List ℕ → ℕ → Type 0
NoneListed failing calls = All (λ k. k < calls) failing

-- how many bytes the next read moves into so many places
abbrev pub read_count : ReadState → ℕ → ℕ
read_count s places = min (length s.left) (min places s.step)

-- after a read that moves n bytes, and after one that fails
abbrev pub after_read : ReadState → ℕ → ReadState
after_read s n = record s { left = drop n s.left; calls = one_more s.calls; ends = if n == 0 then one_more s.ends else s.ends }

abbrev pub after_failed_read : ReadState → ReadState
after_failed_read s = record s { calls = one_more s.calls; faults = one_more s.faults }

-- how many bytes still have room
abbrev pub room_left : WriteState → ℕ
room_left s = s.room - length s.written

-- how many bytes the next write moves of so many
abbrev pub write_count : WriteState → ℕ → ℕ
write_count s bytes = min (room_left s) (min bytes s.step)

-- after a write that moves these bytes, and after one that fails
abbrev pub after_write : WriteState → List ℕ → WriteState
after_write s bytes = record s { written = s.written ++ bytes; calls = one_more s.calls }

abbrev pub after_failed_write : WriteState → WriteState
after_failed_write s = record s { calls = one_more s.calls; faults = one_more s.faults }
