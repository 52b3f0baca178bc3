-- A receiver over a ring: what contracts see of it, and where its moves lead.
-- Source: docs/PROFILE.md, "Lanes".
use Rattle.std.specs.Prelude.{◌≡◌, ℕ, ◌≤◌, List, [], ◌∷◌, ◌++◌, length, drop, map, Contains}
use Rattle.shared_words.specs.Entry.{Entry}
use Rattle.shared_words.specs.Shown.{RingId, size_of}
use Rattle.shared_words.specs.declared.view.Role.{Role}
use Rattle.split_ring.specs.Ends.{End}
use Rattle.lane_end.specs.Numbers.{AreApart}
use Rattle.lane_end.specs.ReceiveMoves.{ReceiveMove, Looked, Took, Gave}
use Rattle.lane_end.specs.ReceiveParts.{frames_taken, numbers_given, see_counts, SeenBetween}
use Rattle.lane_end.specs.ReceiverContract.{without}
use Rattle.lane_end.specs.Entries.{numbers_in, loads_in, returns_in}
use Rattle.lane_end.specs.Opened.{written_before, given_length}

-- which half of the ring it has, what that half did, and how many frames its looks showed that it has not taken
pub record RingReceiver : Type 0 where
  pub role : Role
  pub half : End
  pub shown : ℕ

abbrev pub receiver_size : RingReceiver → ℕ
receiver_size r = size_of r.half.ring

-- the frames that it took since the lane was opened, with the numbers of their buffers
abbrev pub taken_by : RingReceiver → List (ℕ × List ℕ)
taken_by r = loads_in r.half.taken

-- what it gave back since then: each buffer's number with the length that its half wrote
abbrev pub given_entries : RingReceiver → List Entry
given_entries r = drop (written_before r.role (receiver_size r)) r.half.written

abbrev pub given_by : RingReceiver → List (ℕ × ℕ)
given_by r = returns_in (given_entries r)

-- the same of all that its half wrote, before the lane was opened and since
abbrev pub written_by : RingReceiver → List (ℕ × ℕ)
written_by r = returns_in r.half.written

-- how many frames it knows to have come since then, by its looks and by meetings
abbrev pub come_known : RingReceiver → ℕ
come_known r = r.half.shown

-- the second list without the numbers of the first, each struck once
abbrev pub struck : List ℕ → List ℕ → List ℕ
struck [] numbers = numbers
struck (n ∷ more) numbers = struck more (without n numbers)

-- the numbers of the buffers taken and not given back
abbrev pub out_at : RingReceiver → List ℕ
out_at r = struck (numbers_in (given_entries r)) (numbers_in r.half.taken)

-- buffers given back, with their lengths
abbrev pub with_lengths : Role → RingId → List ℕ → List (ℕ × ℕ)
with_lengths role ring numbers = map (λ (n : ℕ). (n, given_length role ring)) numbers

-- the moves lead from the numbers of the buffers that are out to others: a take adds one, and one that is given back was out. After each take
-- they differ and are below the size
abbrev pub OutMoves : ℕ → List ℕ → List ReceiveMove → List ℕ → Type 0
OutMoves size old [] new = new ≡ old
OutMoves size old (Looked n ∷ moves) new = OutMoves size old moves new
OutMoves size old (Took n frame ∷ moves) new = AreApart size (old ++ n ∷ []) × OutMoves size (old ++ n ∷ []) moves new
OutMoves size old (Gave n ∷ moves) new = Contains old n × OutMoves size (without n old) moves new

-- these moves, oldest first, lead from the one state of a receiver to the other
pub record RingReceives (old : RingReceiver) (moves : List ReceiveMove) (new : RingReceiver) : Type 0 where
  pub ring : new.half.ring ≡ old.half.ring
  pub role : new.role ≡ old.role
  pub taken : taken_by new ≡ taken_by old ++ frames_taken moves
  pub given : given_by new ≡ given_by old ++ with_lengths old.role old.half.ring (numbers_given moves)
  pub written : written_by new ≡ written_by old ++ with_lengths old.role old.half.ring (numbers_given moves)
  pub outs : OutMoves (receiver_size old) (out_at old) moves (out_at new)
  pub looks : new.half.looks ≡ old.half.looks ++ see_counts moves
  pub known : come_known old ≤ come_known new
  -- a look shows no less than was known before the moves, and no more than is known after them
  pub seen : SeenBetween (come_known old) (come_known new) (length old.half.taken) moves
