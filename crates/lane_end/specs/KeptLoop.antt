-- What the fields of a lane from a domain to itself mean, and the invariant that they keep.
-- Source: docs/ARCHITECTURE.md.
use Rattle.std.specs.Prelude.{◌≡◌, ◌+◌, ◌≤◌, length}
use Rattle.lane_end.specs.Arrived.{Arrived}
use Rattle.lane_end.specs.Waiting.{Waiting}
use Rattle.lane_end.specs.Numbers.{AreApart}
use Rattle.lane_end.specs.Loop.{Loop, loop_numbers}
use Rattle.lane_end.specs.declared.loop_lane.LoopLane.TheInside.{Inside}

-- a free list and an inbox
abbrev pub loop_with : Waiting → Arrived → Loop
loop_with w a = record { size = w.size; free = w.free; frames = a.came; shown = a.shown; out = a.out; back = w.back }

abbrev pub loop_of : Inside → Loop
loop_of l = loop_with l.waiting l.inbox

-- no more frames are shown than there are, and no buffer occurs twice
pub record IsSound (l : Loop) : Type 0 where
  pub shown : l.shown ≤ length l.frames
  pub fits : length l.free + length l.back + length l.frames + length l.out ≤ l.size
  pub apart : AreApart l.size (loop_numbers l)

pub record IsKept (l : Inside) : Type 0 where
  pub size : l.inbox.size ≡ l.waiting.size
  pub sound : IsSound (loop_of l)
