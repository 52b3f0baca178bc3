-- Bytes put in hexadecimal, one piece after the other.
use Rattle.std.proofs.Common.{◌≡◌, ◌≤◌, ◌+◌, ℕ, zero, suc, List, ◌++◌, take, sym, ap, subst, arith}
use Rattle.std.proofs.lemmas.Grind.{flat_map-append}
use Rattle.mc_base.specs.Text.{hex_byte, hex_digits, hex_text}
use Rattle.outer_io.specs.Puts.{Puts}
use Rattle.outer_io.specs.declared.sink.Sink.{Ghosts}
use Rattle.outer_io.specs.declared.writer.Writer.{Writer}
use Rattle.outer_io.proofs.Writing.{puts_then}
use Rattle.byteorder.specs.Endian.{little_bytes}
use Rattle.board_model.specs.RingImage.{for_each}
use Rattle.ring_trace.proofs.Pieces.{one_more}
use Rattle.ring_trace.proofs.FieldBytes.{lowest_bytes}

-- one piece, and then another
pub hex_then : {K : Type 0} (sink : Ghosts K) (a b c : Writer K) (x y : List ℕ) → Puts sink a b (hex_digits x) → Puts sink b c (hex_digits y) → Puts sink a c (hex_digits (x ++ y))
hex_then sink a b c x y p q = subst (λ t. Puts sink a c t) (sym (flat_map-append hex_byte x y)) (puts_then sink a b c (hex_digits x) (hex_digits y) p q)

-- the pieces of the numbers so far, and then the next
pub hex_more : {K : Type 0} (sink : Ghosts K) (a b c : Writer K) (f : ℕ → List ℕ) (i : ℕ) → Puts sink a b (hex_digits (for_each f i)) → Puts sink b c (hex_digits (f i)) → Puts sink a c (hex_digits (for_each f (i + 1)))
hex_more sink a b c f i p q = subst (λ t. Puts sink a c (hex_digits t)) (sym (one_more f i)) (hex_then sink a b c (for_each f i) (f i) p q)

-- a field of one byte or more is no empty text
pub field_text : (w x : ℕ) → 1 ≤ w → w ≤ 8 → hex_text (take w (little_bytes 8 x)) ≡ hex_digits (little_bytes w x)
field_text zero x some few = absurd (omega (arith, some))
field_text (suc w) x some few = ap hex_text (lowest_bytes (suc w) x few)
