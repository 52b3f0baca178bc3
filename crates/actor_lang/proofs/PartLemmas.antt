-- The parts of a text between separators, found from the front: lines and words.
use Rattle.std.proofs.Common.{◌≡◌, ℕ, ◌-◌, ◌≤◌, length, take, drop, Bool, true, false, not, List, [], ◌∷◌, ◌++◌, append-nil, refl, sym, ap, ◌∙◌, arith, inl, inr}
use Rattle.std.specs.Prelude.{◌==◌}
use Rattle.std.specs.List.{list_all}
use Rattle.std.proofs.lemmas.Bool.{cases_Bool, and_parts}
use Rattle.std.proofs.lemmas.Bool.Decides.{nat_tests}
use Rattle.std.proofs.lemmas.List.{take-append-drop, take_rest}
use Rattle.board_model.specs.FileLines.{onto_first, parts_at}
use Rattle.board_model.specs.LineReasons.{is_empty}
use Rattle.board_model.specs.Numerals.{is_other, ends_at}
use Rattle.actor_lang.specs.InputLines.{ended, input_lines}

not_true : (t : Bool) → not t ≡ true → t ≡ false
not_true true h = absurd cc
not_true false h = refl

same_byte : (c : ℕ) → (c == c) ≡ true
same_byte c = grind (arith, nat_tests)

-- ---- a part

part_cut : (c : ℕ) (front rest : List ℕ) → list_all (is_other c) front ≡ true → parts_at c (front ++ c ∷ rest) ≡ front ∷ parts_at c rest
part_cut c [] rest h = rw (same_byte c) refl
part_cut c (b ∷ bs) rest h =
    let k = and_parts (is_other c b) (list_all (is_other c) bs) h in
    rw (not_true (b == c) k.0) (ap (onto_first b) (part_cut c bs rest k.1))

part_whole : (c : ℕ) (w : List ℕ) → list_all (is_other c) w ≡ true → parts_at c w ≡ w ∷ []
part_whole c [] h = refl
part_whole c (b ∷ bs) h =
    let k = and_parts (is_other c b) (list_all (is_other c) bs) h in
    rw (not_true (b == c) k.0) (ap (onto_first b) (part_whole c bs k.1))

-- a text that does not end begins with the byte
begins : (c : ℕ) (xs : List ℕ) → ends_at c xs ≡ true → 1 ≤ length xs → xs ≡ c ∷ drop 1 xs
begins c [] h some = absurd (omega arith)
begins c (x ∷ xs) h some =
    let same : x ≡ c = grind (arith, nat_tests) in
    ap (λ y. y ∷ xs) same

no_bytes : (xs : List ℕ) → length xs ≡ 0 → xs ≡ []
no_bytes [] h = refl
no_bytes (x ∷ xs) h = absurd (omega (arith, h))

pub part_here : (c n : ℕ) (text : List ℕ) → list_all (is_other c) (take n text) ≡ true → ends_at c (drop n text) ≡ true → 1 ≤ length (drop n text) → parts_at c text ≡ take n text ∷ parts_at c (take (length (drop n text) - 1) (drop 1 (drop n text)))
part_here c n text front ends some =
    let whole : text ≡ take n text ++ c ∷ drop 1 (drop n text) = sym (take-append-drop n text) ∙ ap (λ (t : List ℕ). take n text ++ t) (begins c (drop n text) ends some) in
    ap (parts_at c) whole ∙ part_cut c (take n text) (drop 1 (drop n text)) front ∙ ap (λ (t : List ℕ). take n text ∷ parts_at c t) (sym (take_rest (drop n text) 1))

pub part_last : (c n : ℕ) (text : List ℕ) → list_all (is_other c) (take n text) ≡ true → length (drop n text) ≡ 0 → parts_at c text ≡ take n text ∷ []
part_last c n text front ends =
    let none = no_bytes (drop n text) ends in
    let whole : text ≡ take n text = sym (take-append-drop n text) ∙ ap (λ (t : List ℕ). take n text ++ t) none ∙ append-nil (take n text) in
    ap (parts_at c) whole ∙ part_whole c (take n text) front

-- ---- lines

some_first : (b : ℕ) (ws : List (List ℕ)) → 1 ≤ length (onto_first b ws)
some_first b [] = omega arith
some_first b (w ∷ ws) = omega arith

some_parts : (c : ℕ) (w : List ℕ) → 1 ≤ length (parts_at c w)
some_parts c [] = omega arith
some_parts c (b ∷ bs) = elim (cases_Bool (b == c)) [
  | inl here ↦ rw here (omega arith)
  | inr apart ↦ rw apart (some_first b (parts_at c bs))
]

ended-more : (line : List ℕ) (parts : List (List ℕ)) → 1 ≤ length parts → ended (line ∷ parts) ≡ line ∷ ended parts
ended-more line [] some = absurd (omega arith)
ended-more line (p ∷ ps) some = refl

pub line_ended : (text line rest : List ℕ) → parts_at 10 text ≡ line ∷ parts_at 10 rest → input_lines text ≡ line ∷ input_lines rest
line_ended text line rest is = ap ended is ∙ ended-more line (parts_at 10 rest) (some_parts 10 rest)

some_bytes : (w : List ℕ) → 1 ≤ length w → is_empty w ≡ false
some_bytes [] some = absurd (omega arith)
some_bytes (b ∷ bs) some = refl

pub line_open : (text line : List ℕ) → parts_at 10 text ≡ line ∷ [] → 1 ≤ length line → input_lines text ≡ line ∷ input_lines []
line_open text line is some =
    let full : is_empty line ≡ false = some_bytes line some in
    ap ended is ∙ rw full refl
