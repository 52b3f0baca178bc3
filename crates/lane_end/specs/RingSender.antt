-- A sender over a ring: what contracts see of it, and where its moves lead.
-- Source: docs/PROFILE.md, "Lanes".
use Rattle.std.specs.Prelude.{◌≡◌, ℕ, ◌-◌, ◌≤◌, List, [], ◌∷◌, ◌++◌, length, map, drop, sum}
use Rattle.shared_words.specs.Entry.{Entry}
use Rattle.shared_words.specs.Shown.{size_of}
use Rattle.shared_words.specs.declared.view.Role.{Role}
use Rattle.split_ring.specs.Ends.{End}
use Rattle.lane_end.specs.Numbers.{AreApart}
use Rattle.lane_end.specs.SendMoves.{SendMove, Looked, Sent}
use Rattle.lane_end.specs.SendParts.{frames_sent, back_counts, BackBetween}
use Rattle.lane_end.specs.Entries.{frames_in, lengths_in, numbers_in, loads_in}
use Rattle.lane_end.specs.Opened.{taken_before}

-- which half of the ring it has, what that half did, and the numbers of the free buffers
pub record RingSender : Type 0 where
  pub role : Role
  pub half : End
  pub free : List ℕ

abbrev pub sender_size : RingSender → ℕ
sender_size s = size_of s.half.ring

-- the frames that it put since the lane was opened, alone and with the numbers of their buffers, these numbers, and the lengths of the entries
abbrev pub put_by : RingSender → List (List ℕ)
put_by s = frames_in s.half.written

abbrev pub loads_by : RingSender → List (ℕ × List ℕ)
loads_by s = loads_in s.half.written

abbrev pub sent_by : RingSender → List ℕ
sent_by s = numbers_in s.half.written

abbrev pub lengths_by : RingSender → List ℕ
lengths_by s = lengths_in s.half.written

-- what came back to it since then, and the numbers of these buffers
abbrev pub back_entries : RingSender → List Entry
back_entries s = drop (taken_before s.role (sender_size s)) s.half.taken

abbrev pub back_to : RingSender → List ℕ
back_to s = numbers_in (back_entries s)

-- how many buffers it knows to have come back since then, by its looks and by meetings
abbrev pub back_known : RingSender → ℕ
back_known s = s.half.shown - taken_before s.role (sender_size s)

-- the free buffers, the buffers of the frames put, and those that looks showed
pub record Hand : Type 0 where
  pub free : List ℕ
  pub sent : List ℕ
  pub back : List ℕ

abbrev pub hand_of : RingSender → Hand
hand_of s = record { free = s.free; sent = sent_by s; back = back_to s }

-- the moves lead from one hand to another: a put takes the first free buffer, and a look of n appends n buffers. After each
-- move the numbers of the free buffers differ and are below the size
abbrev pub Deals : ℕ → Hand → List SendMove → Hand → Type 0
Deals size old [] new = new ≡ old
Deals size old (Looked n ∷ moves) new = (more : List ℕ) × (length more ≡ n) × AreApart size (old.free ++ more) × Deals size (record { free = old.free ++ more; sent = old.sent; back = old.back ++ more }) moves new
Deals size old (Sent frame ∷ moves) new = (first : ℕ) × (rest : List ℕ) × (old.free ≡ first ∷ rest) × AreApart size rest × Deals size (record { free = rest; sent = old.sent ++ first ∷ []; back = old.back }) moves new

-- these moves, oldest first, lead from the one state of a sender to the other
pub record RingSends (old : RingSender) (moves : List SendMove) (new : RingSender) : Type 0 where
  pub ring : new.half.ring ≡ old.half.ring
  pub role : new.role ≡ old.role
  pub put : put_by new ≡ put_by old ++ frames_sent moves
  -- each with its own length
  pub lengths : lengths_by new ≡ lengths_by old ++ map (λ (frame : List ℕ). length frame) (frames_sent moves)
  pub looks : new.half.looks ≡ old.half.looks ++ back_counts moves
  pub known : back_known old ≤ back_known new
  -- a look shows no less than was known before the moves, and no more than is known after them
  pub seen : BackBetween (back_known old) (back_known new) (sum old.half.looks) moves
  pub deals : Deals (sender_size old) (hand_of old) moves (hand_of new)
