-- Between two meetings the looks of one end are exact.
use Rattle.std.proofs.Common.{◌≡◌, ◌∙◌, ℕ, ◌+◌, ◌≤◌, List, [], ◌∷◌, ◌++◌, length, drop, refl, ap, sym, subst, arith, append_assoc}
use Rattle.std.proofs.lemmas.List.{length-map}
use Rattle.lane_end.specs.Entries.{load_in}
use Rattle.lane_end.specs.ReceiveMoves as receiving
use Rattle.lane_end.specs.SendMoves as sending
use Rattle.lane_end.specs.ReceiveParts.{frames_taken, SeenBetween}
use Rattle.lane_end.specs.SendParts.{BackBetween}
use Rattle.lane_end.specs.RingReceiver.{taken_by, come_known}
use Rattle.lane_end.specs.RingSender.{back_known}
use Rattle.lane_end.specs.ExactLooks.{SeesAll, ShowsAll, ReceivesExactly, SendsExactly}

sees : (all low high before : ℕ) (ms : List receiving.ReceiveMove) → low ≡ all → high ≤ all → SeenBetween low high before ms → SeesAll all before ms
sees all low high before [] l h s = tt
sees all low high before (receiving.Looked n ∷ ms) l h s = (let a = s.0 in let b = s.1 in omega (arith, l, h, a, b), sees all low high before ms l h s.2)
sees all low high before (receiving.Took n f ∷ ms) l h s = sees all low high (before + 1) ms l h s
sees all low high before (receiving.Gave n ∷ ms) l h s = sees all low high before ms l h s

shows : (all low high before : ℕ) (ms : List sending.SendMove) → low ≡ all → high ≤ all → BackBetween low high before ms → ShowsAll all before ms
shows all low high before [] l h s = tt
shows all low high before (sending.Looked n ∷ ms) l h s = (let a = s.0 in let b = s.1 in omega (arith, l, h, a, b), shows all low high (before + n) ms l h s.2)
shows all low high before (sending.Sent f ∷ ms) l h s = shows all low high before ms l h s

drop-front : {A : Type 0} (xs ys : List A) → drop (length xs) (xs ++ ys) ≡ ys
drop-front {A} [] ys = refl
drop-front {A} (x ∷ xs) ys = drop-front xs ys

pub receives-exactly : ReceivesExactly
receives-exactly put old new moves met moved high front =
    let many : length old.half.taken ≡ length (taken_by old) = sym (length-map old.half.taken load_in) in
    let all : put ≡ taken_by old ++ (frames_taken moves ++ front.0) = front.1 ∙ (ap (λ (l : List (ℕ × List ℕ)). l ++ front.0) moved.taken ∙ append_assoc (taken_by old) (frames_taken moves) front.0) in (
      subst (λ (n : ℕ). SeesAll (length put) n moves) many (sees (length put) (come_known old) (come_known new) (length old.half.taken) moves met high moved.seen),
      (front.0, ap (drop (length (taken_by old))) all ∙ drop-front (taken_by old) (frames_taken moves ++ front.0)),
    )

pub sends-exactly : SendsExactly
sends-exactly given old new moves met moved high = shows given (back_known old) (back_known new) (Rattle.std.specs.Prelude.sum old.half.looks) moves met high moved.seen
