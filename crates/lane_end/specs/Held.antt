-- What the buffers and frames of an end stand for.
-- Source: docs/ARCHITECTURE.md.
use Rattle.std.specs.Prelude.{ℕ, List, take, map}
use Rattle.mc_base.specs.Stored.{Stored}
use Rattle.lane_end.specs.declared.carried.Carried.{Carried}

-- a frame with its buffer's number
abbrev pub frame_of : Carried → ℕ × List ℕ
frame_of c = (c.buffer.number, take c.len c.buffer.bytes)

abbrev pub frames_of : List Carried → List (ℕ × List ℕ)
frames_of cs = map frame_of cs

abbrev pub numbers_of : List Stored → List ℕ
numbers_of bs = map (λ (b : Stored). b.number) bs
