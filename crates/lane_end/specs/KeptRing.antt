-- What the fields of an end over a ring mean, and the invariant that they keep.
-- Source: docs/ARCHITECTURE.md, "The ends of a lane".
use Rattle.std.specs.Prelude.{◌≡◌, ℕ, ◌+◌, ◌≤◌, List, length, take}
use Rattle.std.specs.List.{All}
use Rattle.mc_base.specs.Limits.{ring_limit, buffer_size}
use Rattle.mc_base.specs.Stored.{Stored}
use Rattle.shared_words.specs.Entry.{times}
use Rattle.shared_words.specs.Places.{begins, starts_with}
use Rattle.shared_words.specs.Shown.{TableShown}
use Rattle.shared_words.specs.declared.view.Role.{Role}
use Rattle.split_ring.specs.Ends.{End, HasWidth, IsSound}
use Rattle.lane_end.specs.Held.{numbers_of}
use Rattle.lane_end.specs.Numbers.{often}
use Rattle.lane_end.specs.Opened.{written_before}
use Rattle.lane_end.specs.RingSender.{RingSender, sender_size}
use Rattle.lane_end.specs.RingReceiver.{RingReceiver, receiver_size}
use Rattle.lane_end.specs.RingLane.{IsSender, IsReceiver}

-- a half with its free buffers
abbrev pub sender_with : Role → End → List Stored → RingSender
sender_with role half buffers = record { role = role; half = half; free = numbers_of buffers }

-- a half with what is shown
abbrev pub receiver_with : Role → End → ℕ → RingReceiver
receiver_with role half shown = record { role = role; half = half; shown = shown }

-- the free buffers are exactly those that its half holds, and their list has room for all of the ring's
pub record KeepsSender (on : TableShown) (capacity : ℕ) (s : RingSender) : Type 0 where
  pub ring : s.half.ring ≡ on.ring
  pub width : on.ring.width ≡ buffer_size
  pub sound : IsSound s.role s.half
  pub held : (x : ℕ) → often x s.free + times x s.half.written ≡ begins s.role (sender_size s) x + times x s.half.taken
  pub count : length s.free + length s.half.written ≡ starts_with s.role (sender_size s) + length s.half.taken
  pub sender : IsSender s
  pub small : sender_size s ≤ ring_limit
  pub room : sender_size s ≤ capacity

-- the same of the buffers themselves, each of which is as long as all of the ring
pub record KeepsFree (on : TableShown) (capacity : ℕ) (role : Role) (half : End) (buffers : List Stored) : Type 0 where
  pub keeps : KeepsSender on capacity (sender_with role half buffers)
  pub wide : All (HasWidth half) buffers

-- what its half wrote before the lane was opened are exactly the buffers with which the half began
pub record KeepsReceiver (on : TableShown) (r : RingReceiver) : Type 0 where
  pub ring : r.half.ring ≡ on.ring
  pub width : on.ring.width ≡ buffer_size
  pub sound : IsSound r.role r.half
  pub first : (x : ℕ) → times x (take (written_before r.role (receiver_size r)) r.half.written) ≡ begins r.role (receiver_size r) x
  pub receiver : IsReceiver r
