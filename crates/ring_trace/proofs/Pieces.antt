-- Something for each number, one number after the other.
use Rattle.std.proofs.Common.{◌≡◌, ◌∙◌, ◌+◌, ℕ, List, [], ◌∷◌, ◌++◌, refl, sym, ap, append_assoc, arith}
use Rattle.std.specs.List.{flat_map, range_with_len}
use Rattle.std.proofs.lemmas.List.{append-nil}
use Rattle.std.proofs.lemmas.Grind.{flat_map-append}
use Rattle.board_model.specs.RingImage.{for_each}
use Rattle.ring_trace.proofs.Firsts.{range-append}

pub one_more : (f : ℕ → List ℕ) (i : ℕ) → for_each f (i + 1) ≡ for_each f i ++ f i
one_more f i =
    let numbers : range_with_len 0 (i + 1) ≡ range_with_len 0 i ++ (i ∷ []) = range-append 0 i 1 i (i + 1) refl (omega arith) in
    ap (flat_map f) numbers ∙ (flat_map-append f (range_with_len 0 i) (i ∷ []) ∙ ap (λ l. flat_map f (range_with_len 0 i) ++ l) (append-nil (f i)))

-- after what is appended for the numbers so far, what is appended for the next
pub appended : (f : ℕ → List ℕ) (i : ℕ) (old so_far new : List ℕ) → so_far ≡ old ++ for_each f i → new ≡ so_far ++ f i → new ≡ old ++ for_each f (i + 1)
appended f i old so_far new before here = here ∙ (ap (λ l. l ++ f i) before ∙ (append_assoc old (for_each f i) (f i) ∙ ap (λ l. old ++ l) (sym (one_more f i))))
