-- What the fields of an inbox mean, and the invariant that they keep.
-- Source: docs/ARCHITECTURE.md.
use Rattle.std.specs.Prelude.{◌≤◌, vec_capacity}
use Rattle.std.specs.VecDeque.{deque_len, deque_capacity}
use Rattle.mc_base.specs.Limits.{pool_limit}
use Rattle.lane_end.specs.Held.{frames_of}
use Rattle.lane_end.specs.Arrived.{Arrived}
use Rattle.lane_end.specs.declared.inbox.Inbox.TheInside.{Inside}

abbrev pub arrived_of : Inside → Arrived
arrived_of i = record { size = i.size; came = frames_of i.frames.items; shown = i.shown; out = i.out.items }

pub record IsKept (i : Inside) : Type 0 where
  pub small : i.size ≤ pool_limit
  pub shown : i.shown ≤ deque_len i.frames
  pub fits : deque_len i.frames ≤ i.size
  pub frame_room : i.size ≤ deque_capacity i.frames
  pub out_room : i.size ≤ vec_capacity i.out
