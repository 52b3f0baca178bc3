-- A text cut at its first blank.
use Rattle.std.proofs.Common.{◌≡◌, ℕ, ◌-◌, ◌≤◌, length, take, drop, true, false, not, List, [], ◌∷◌, ◌++◌, Some, None, append-nil, refl, sym, ap, ◌∙◌, arith}
use Rattle.std.proofs.lemmas.Bool.Decides.{nat_tests}
use Rattle.std.specs.Prelude.{◌==◌}
use Rattle.std.specs.List.{list_all}
use Rattle.std.proofs.lemmas.Bool.{and_parts}
use Rattle.std.proofs.lemmas.List.{take-append-drop, take_rest}
use Rattle.board_model.specs.Numerals.{is_other, ends_at}
use Rattle.mc_journal.specs.Readers.{onto_first, cut_at}

not_true : (t : _) → not t ≡ true → t ≡ false
not_true true h = absurd cc
not_true false h = refl

same_byte : (c : ℕ) → (c == c) ≡ true
same_byte c = grind (arith, nat_tests)

-- cut where it is
pub cut-found : (c : ℕ) (front rest : List ℕ) → list_all (is_other c) front ≡ true → cut_at c (front ++ c ∷ rest) ≡ Some (front, rest)
cut-found c [] rest h = rw (same_byte c) refl
cut-found c (b ∷ bs) rest h =
    let k = and_parts (is_other c b) (list_all (is_other c) bs) h in
    rw (not_true (b == c) k.0) (ap (onto_first b) (cut-found c bs rest k.1))

pub cut-not : (c : ℕ) (w : List ℕ) → list_all (is_other c) w ≡ true → cut_at c w ≡ None
cut-not c [] h = refl
cut-not c (b ∷ bs) h =
    let k = and_parts (is_other c b) (list_all (is_other c) bs) h in
    rw (not_true (b == c) k.0) (ap (onto_first b) (cut-not c bs k.1))

begins : (c : ℕ) (xs : List ℕ) → ends_at c xs ≡ true → 1 ≤ length xs → xs ≡ c ∷ drop 1 xs
begins c [] h some = absurd (omega arith)
begins c (x ∷ xs) h some =
    let same : x ≡ c = grind (arith, nat_tests) in
    ap (λ y. y ∷ xs) same

no_bytes : (xs : List ℕ) → length xs ≡ 0 → xs ≡ []
no_bytes [] h = refl
no_bytes (x ∷ xs) h = absurd (omega (arith, h))

pub cut-here : (c n : ℕ) (word : List ℕ) → list_all (is_other c) (take n word) ≡ true → ends_at c (drop n word) ≡ true → 1 ≤ length (drop n word) → Some (take n word, take (length (drop n word) - 1) (drop 1 (drop n word))) ≡ cut_at c word
cut-here c n word front ends some =
    let whole : word ≡ take n word ++ c ∷ drop 1 (drop n word) = sym (take-append-drop n word) ∙ ap (λ (t : List ℕ). take n word ++ t) (begins c (drop n word) ends some) in
    sym (ap (cut_at c) whole ∙ cut-found c (take n word) (drop 1 (drop n word)) front ∙ ap (λ (t : List ℕ). Some (take n word, t)) (sym (take_rest (drop n word) 1)))

pub cut-none : (c n : ℕ) (word : List ℕ) → list_all (is_other c) (take n word) ≡ true → length (drop n word) ≡ 0 → None ≡ cut_at c word
cut-none c n word front ends =
    let none = no_bytes (drop n word) ends in
    let whole : word ≡ take n word = sym (take-append-drop n word) ∙ ap (λ (t : List ℕ). take n word ++ t) none ∙ append-nil (take n word) in
    sym (ap (cut_at c) whole ∙ cut-not c (take n word) front)
