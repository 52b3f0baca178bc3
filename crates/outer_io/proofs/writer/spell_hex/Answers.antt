use Rattle.std.proofs.Common.{◌≡◌, ◌+◌, ◌*◌, ◌/◌, ◌%◌, ◌<◌, ◌++◌, [], ◌∷◌, ℕ, List, length, take, get_or, refl, ap, ◌∙◌, slice_set, append_assoc, arith}
use Rattle.std.proofs.lemmas.Grind.{common_steps, take-set_at, take_at_read}
use Rattle.mc_base.specs.Text.{hex_digit, hex_digits}
use Rattle.outer_io.proofs.Digits.{hex_digits-append}
use Rattle.outer_io.proofs.writer.spell_hex.Goals as goal

-- two digits more
two_more : (digits bytes : List ℕ) (i high low : ℕ) → 2 * i + 1 < length digits → i < length bytes → take (2 * i) digits ≡ hex_digits (take i bytes)
    → high ≡ hex_digit (get_or bytes i 0 / 16) → low ≡ hex_digit (get_or bytes i 0 % 16)
    → take (2 * (i + 1)) (slice_set (slice_set digits (2 * i) high) (2 * i + 1) low) ≡ hex_digits (take (i + 1) bytes)
two_more digits bytes i high low fits within so_far h l =
    let first : take (2 * i + 1) (slice_set digits (2 * i) high) ≡ take (2 * i) digits ++ high ∷ [] = take-set_at digits (2 * i) (2 * i + 1) high refl (omega arith) in
    let second : take (2 * (i + 1)) (slice_set (slice_set digits (2 * i) high) (2 * i + 1) low) ≡ take (2 * i + 1) (slice_set digits (2 * i) high) ++ low ∷ [] = take-set_at (slice_set digits (2 * i) high) (2 * i + 1) (2 * (i + 1)) low (omega arith) (grind (arith, common_steps)) in
    let read : take (i + 1) bytes ≡ take i bytes ++ get_or bytes i 0 ∷ [] = (take_at_read bytes i 0 within).1 in
    let all : hex_digits (take (i + 1) bytes) ≡ hex_digits (take i bytes) ++ hex_digit (get_or bytes i 0 / 16) ∷ hex_digit (get_or bytes i 0 % 16) ∷ [] = ap hex_digits read ∙ hex_digits-append (take i bytes) (get_or bytes i 0 ∷ []) in
    rw (second, first, all, so_far, h, l) (append_assoc (hex_digits (take i bytes)) (hex_digit (get_or bytes i 0 / 16) ∷ []) (hex_digit (get_or bytes i 0 % 16) ∷ []))

pub loop-i-preserved : goal.loop-i-preserved
loop-i-preserved c = two_more _ _ _ _ _ (omega arith) (omega arith) c.loop-i.invariant c.spell_digit.ensures c.spell_digit-in-loop-i.ensures
