-- What the fields of a plain receiver mean, and the invariant that they keep.
-- Source: docs/ARCHITECTURE.md.
use Rattle.std.specs.Prelude.{ℕ, ◌+◌, ◌≤◌, List, length}
use Rattle.std.specs.VecDeque.{deque_capacity}
use Rattle.lane_end.specs.Arrived.{Arrived}
use Rattle.lane_end.specs.Numbers.{AreApart}
use Rattle.lane_end.specs.Held.{numbers_of}
use Rattle.lane_end.specs.PlainReceiver.{Receiver}
use Rattle.lane_end.specs.PlainLane.{receiver_numbers}
use Rattle.lane_end.specs.declared.plain_recv.PlainRecv.TheInside.{Inside}

-- an inbox with the buffers given back
abbrev pub receiver_with : Arrived → List ℕ → Receiver
receiver_with a given = record { size = a.size; came = a.came; shown = a.shown; out = a.out; given = given }

abbrev pub receiver_of : Inside → Receiver
receiver_of r = receiver_with r.inbox (numbers_of r.given.items)

-- no more frames are shown than came, and no buffer occurs twice
pub record IsSound (r : Receiver) : Type 0 where
  pub shown : r.shown ≤ length r.came
  pub fits : length r.came + length r.out + length r.given ≤ r.size
  pub apart : AreApart r.size (receiver_numbers r)

pub record IsKept (r : Inside) : Type 0 where
  pub sound : IsSound (receiver_of r)
  pub room : r.inbox.size ≤ deque_capacity r.given
