-- A plain lane: its two ends at the beginning, and what a shuttle between them does.
-- Source: docs/PROFILE.md, "Lanes".
use Rattle.std.specs.Prelude.{◌≡◌, ℕ, List, [], ◌++◌, map}
use Rattle.lane_end.specs.Numbers.{all_numbers, often, inside}
use Rattle.lane_end.specs.PlainSender.{Sender}
use Rattle.lane_end.specs.PlainReceiver.{Receiver}

-- all buffers are free
abbrev pub new_sender : ℕ → Sender
new_sender size = record { size = size; free = all_numbers size; put = []; back = [] }

abbrev pub new_receiver : ℕ → Receiver
new_receiver size = record { size = size; came = []; shown = 0; out = []; given = [] }

-- the numbers of the buffers of frames
abbrev pub carriers : List (ℕ × List ℕ) → List ℕ
carriers frames = map (λ (f : ℕ × List ℕ). f.0) frames

-- the numbers of the buffers that an end holds, with those that are out
abbrev pub sender_numbers : Sender → List ℕ
sender_numbers s = s.free ++ (carriers s.put ++ s.back)

abbrev pub receiver_numbers : Receiver → List ℕ
receiver_numbers r = carriers r.came ++ (r.out ++ r.given)

-- the two are the ends of one lane: the numbers that they hold, with those that are out, are 0 to the size less 1, each
-- once
pub record AreOneLane (from : Sender) (to : Receiver) : Type 0 where
  pub size : to.size ≡ from.size
  pub once : (x : ℕ) → often x (sender_numbers from ++ receiver_numbers to) ≡ inside from.size x

-- the frames put have come, and the buffers given back have come back
abbrev pub shuttled_sender : Sender → Receiver → Sender
shuttled_sender from to = record from { put = []; back = from.back ++ to.given }

abbrev pub shuttled_receiver : Sender → Receiver → Receiver
shuttled_receiver from to = record to { came = to.came ++ from.put; given = [] }

-- a shuttle is how the two ends meet
pub record HasShuttled (s : Sender) (r : Receiver) (s' : Sender) (r' : Receiver) : Type 0 where
  pub sends : s' ≡ shuttled_sender s r
  pub receives : r' ≡ shuttled_receiver s r
