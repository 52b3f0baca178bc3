-- Bytes appended piece by piece.
use Rattle.std.proofs.Common.{ℕ, ◌+◌, List, ◌++◌, length, take, drop, Option, sym, ap, ◌∙◌, append_assoc, length-append, arith}
use Rattle.std.specs.Io.KnownBytes.{Appends}
use Rattle.std.proofs.KnownBytes.{Appends-trans}
use Rattle.std.proofs.Math.Seq.{take-add}
use Rattle.outer_io.specs.Calls.{CountsAtMost}
use Rattle.outer_io.specs.Writes.{AppendsPart, WritesStop}
use Rattle.outer_io.proofs.Counted.{calls_then}

-- a whole piece, and then a part of the next
pub whole_then_part : (a b c : Option (List ℕ)) (xs ys : List ℕ) → Appends a b xs → AppendsPart b c ys → AppendsPart a c (xs ++ ys)
whole_then_part a b c xs ys p q = (xs ++ q.0, q.1, ap (λ (t : List ℕ). xs ++ t) q.2 ∙ sym (append_assoc xs q.0 q.1), q.3, Appends-trans a b c xs q.0 p q.4)

-- a part of the first piece is a part of both
pub part_of_both : (a b : Option (List ℕ)) (xs ys : List ℕ) → AppendsPart a b xs → AppendsPart a b (xs ++ ys)
part_of_both a b xs ys p = (p.0, p.1 ++ ys, ap (λ (t : List ℕ). t ++ ys) p.2 ∙ append_assoc p.0 p.1 ys, omega (arith, length-append p.1 ys, p.3), p.4)

-- one write more
pub one_write_more : (a b c : Option (List ℕ)) (text : List ℕ) (i n : ℕ) → Appends a b (take i text) → Appends b c (take n (drop i text)) → Appends a c (take (i + n) text)
one_write_more a b c text i n p q = rw take-add (Appends-trans a b c (take i text) (take n (drop i text)) p q)

-- a whole piece, and then the next breaks off at its last write
pub whole_then_stop : (a b c : Option (List ℕ)) (k l m : Option ℕ) (xs ys : List ℕ) → Appends a b xs → CountsAtMost k l (length xs) → WritesStop b c l m ys → WritesStop a c k m (xs ++ ys)
whole_then_stop a b c k l m xs ys p few q =
    (xs ++ q.0, omega (arith, length-append xs q.0, length-append xs ys, q.1), Appends-trans a b c xs q.0 p q.2, calls_then k l m _ _ _ few q.3 (omega (arith, length-append xs q.0)))

-- the first piece breaks off, and so do both
pub stop_of_both : (a b : Option (List ℕ)) (k l : Option ℕ) (xs ys : List ℕ) → WritesStop a b k l xs → WritesStop a b k l (xs ++ ys)
stop_of_both a b k l xs ys p = (p.0, omega (arith, length-append xs ys, p.1), p.2, p.3)
