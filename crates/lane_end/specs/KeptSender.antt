-- What the fields of a plain sender mean, and the invariant that they keep.
-- Source: docs/ARCHITECTURE.md.
use Rattle.std.specs.Prelude.{ℕ, ◌+◌, ◌≤◌, List, length}
use Rattle.std.specs.VecDeque.{deque_len, deque_capacity}
use Rattle.lane_end.specs.Held.{frames_of}
use Rattle.lane_end.specs.Waiting.{Waiting}
use Rattle.lane_end.specs.PlainSender.{Sender}
use Rattle.lane_end.specs.declared.plain_send.PlainSend.TheInside.{Inside}

-- a free list with the frames put
abbrev pub sender_with : Waiting → List (ℕ × List ℕ) → Sender
sender_with w put = record { size = w.size; free = w.free; put = put; back = w.back }

abbrev pub sender_of : Inside → Sender
sender_of s = sender_with s.waiting (frames_of s.put.items)

pub record IsKept (s : Inside) : Type 0 where
  pub fits : length s.waiting.free + length s.waiting.back + deque_len s.put ≤ s.waiting.size
  pub room : s.waiting.size ≤ deque_capacity s.put
