-- What the fields of a free list mean, and the invariant that they keep.
-- Source: docs/ARCHITECTURE.md.
use Rattle.std.specs.Prelude.{◌≤◌, take, drop}
use Rattle.std.specs.VecDeque.{deque_len, deque_capacity}
use Rattle.mc_base.specs.Limits.{pool_limit}
use Rattle.lane_end.specs.Held.{numbers_of}
use Rattle.lane_end.specs.Waiting.{Waiting}
use Rattle.lane_end.specs.declared.free_list.FreeList.TheInside.{Inside}

-- the free ones come first
abbrev pub waiting_of : Inside → Waiting
waiting_of l = record { size = l.size; free = take l.free (numbers_of l.buffers.items); back = drop l.free (numbers_of l.buffers.items) }

pub record IsKept (l : Inside) : Type 0 where
  pub small : l.size ≤ pool_limit
  pub free : l.free ≤ deque_len l.buffers
  pub fits : deque_len l.buffers ≤ l.size
  pub room : l.size ≤ deque_capacity l.buffers
