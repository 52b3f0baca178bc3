-- What is known of the moves of one end between two meetings of its ring, where the other end made none.
-- Source: docs/PROFILE.md, "Lanes".
use Rattle.std.specs.Prelude.{◌≡◌, ℕ, ◌+◌, ◌≤◌, List, [], ◌∷◌, length, drop, sum}
use Rattle.shared_words.specs.Entry.{IsPrefix}
use Rattle.lane_end.specs.ReceiveMoves as receiving
use Rattle.lane_end.specs.SendMoves as sending
use Rattle.lane_end.specs.ReceiveParts.{frames_taken}
use Rattle.lane_end.specs.RingReceiver.{RingReceiver, taken_by, come_known, RingReceives}
use Rattle.lane_end.specs.RingSender.{RingSender, back_known, RingSends}

-- each look shows all there is: what it shows and the frames taken before it are together all that were put
abbrev pub SeesAll : ℕ → ℕ → List receiving.ReceiveMove → Type 0
SeesAll put before [] = Unit {0}
SeesAll put before (receiving.Looked n ∷ moves) = (before + n ≡ put) × SeesAll put before moves
SeesAll put before (receiving.Took n frame ∷ moves) = SeesAll put (before + 1) moves
SeesAll put before (receiving.Gave n ∷ moves) = SeesAll put before moves

-- each look of a sender shows all there is: with what looks showed before it, all buffers that were given back
abbrev pub ShowsAll : ℕ → ℕ → List sending.SendMove → Type 0
ShowsAll given before [] = Unit {0}
ShowsAll given before (sending.Looked n ∷ moves) = (before + n ≡ given) × ShowsAll given (before + n) moves
ShowsAll given before (sending.Sent frame ∷ moves) = ShowsAll given before moves

-- a receiver knew of all that was put at the first meeting, and of no more at the second: its looks saw all, and it took the
-- first of what it had not taken
abbrev pub ReceivesExactly : Type 0
ReceivesExactly = (put : List (ℕ × List ℕ)) (old new : RingReceiver) (moves : List receiving.ReceiveMove) → come_known old ≡ length put → RingReceives old moves new → come_known new ≤ length put → IsPrefix (taken_by new) put
    → SeesAll (length put) (length (taken_by old)) moves × IsPrefix (frames_taken moves) (drop (length (taken_by old)) put)

-- the same of a sender and what was given back
abbrev pub SendsExactly : Type 0
SendsExactly = (given : ℕ) (old new : RingSender) (moves : List sending.SendMove) → back_known old ≡ given → RingSends old moves new → back_known new ≤ given → ShowsAll given (sum old.half.looks) moves
