-- Fronts of a text: lines, words, and the parts of a word.
use Rattle.std.proofs.Common.{◌≡◌, ◌≢◌, ℕ, zero, suc, ◌+◌, ◌-◌, ◌≤◌, length, take, drop, get_or, Bool, true, false, ◌&&◌, not, List, [], ◌∷◌, ◌++◌, None, true≢false, append-nil, append_assoc, Bor, refl, sym, ap, ◌∙◌, arith, inl, inr}
use Rattle.std.proofs.lemmas.Bool.Decides.{nat_tests}
use Rattle.std.specs.Prelude.{◌==◌}
use Rattle.std.specs.List.{list_all}
use Rattle.std.proofs.lemmas.List.{take-append-drop, take_rest, map-append}
use Rattle.board_model.specs.FileLines.{onto_first, begins_with, lines_of, is_blank, ends_word, words_of, parts_at}
use Rattle.board_model.specs.Numerals.{is_other, ends_at}
use Rattle.scenario_lang.specs.Fronts.{unreturned, two_parts, three_parts}
use Rattle.scenario_lang.specs.Reading.{seen}
use Rattle.scenario_lang.proofs.Options.{cases_bool, both_hold}

and_false : (a : Bool) → (a && false) ≡ false
and_false true = refl
and_false false = refl

not_true : (t : Bool) → not t ≡ true → t ≡ false
not_true true h = absurd cc
not_true false h = refl

-- ---- lines

line_goes_on : (b : ℕ) (bs : List ℕ) → (b == 10) ≡ false → (b == 13 && begins_with 10 bs) ≡ false → lines_of (b ∷ bs) ≡ onto_first b (lines_of bs)
line_goes_on b bs p q = rw (p, q) refl

no_return : (b c : ℕ) → (c == 10) ≡ false → (b == 13 && (c == 10)) ≡ false
no_return b c h = rw h (and_false (b == 13))

-- a line that a newline ends
pub line_ended : (front rest : List ℕ) → list_all (is_other 10) front ≡ true → lines_of (front ++ 10 ∷ rest) ≡ unreturned front ∷ lines_of rest
line_ended [] rest h = refl
line_ended (b ∷ []) rest h =
    let k = both_hold (is_other 10 b) true h in
    let other : (b == 10) ≡ false = not_true (b == 10) k.0 in
    elim (cases_bool (b == 13)) [
      | inl here ↦ rw (other, here) refl
      | inr apart ↦ rw (other, apart) refl
    ]
line_ended (b ∷ c ∷ cs) rest h =
    let k = both_hold (is_other 10 b) (list_all (is_other 10) (c ∷ cs)) h in
    let next = both_hold (is_other 10 c) (list_all (is_other 10) cs) k.1 in
    let other : (b == 10) ≡ false = not_true (b == 10) k.0 in
    let inside : (c == 10) ≡ false = not_true (c == 10) next.0 in
    line_goes_on b (c ∷ (cs ++ 10 ∷ rest)) other (no_return b c inside) ∙ ap (onto_first b) (line_ended (c ∷ cs) rest k.1) ∙ rw (and_false (b == 13)) refl

-- the last line, which no newline ends
pub line_open : (b : ℕ) (bs : List ℕ) → list_all (is_other 10) (b ∷ bs) ≡ true → lines_of (b ∷ bs) ≡ (b ∷ bs) ∷ []
line_open b [] h =
    let k = both_hold (is_other 10 b) true h in
    line_goes_on b [] (not_true (b == 10) k.0) (and_false (b == 13))
line_open b (c ∷ cs) h =
    let k = both_hold (is_other 10 b) (list_all (is_other 10) (c ∷ cs)) h in
    let next = both_hold (is_other 10 c) (list_all (is_other 10) cs) k.1 in
    line_goes_on b (c ∷ cs) (not_true (b == 10) k.0) (no_return b c (not_true (c == 10) next.0)) ∙ ap (onto_first b) (line_open c cs k.1)

-- a text that does not end begins with the byte
pub begins : (c : ℕ) (xs : List ℕ) → ends_at c xs ≡ true → 1 ≤ length xs → xs ≡ c ∷ drop 1 xs
begins c [] h some = absurd (omega arith)
begins c (x ∷ xs) h some =
    let same : x ≡ c = grind (arith, nat_tests) in
    ap (λ y. y ∷ xs) same

pub no_bytes : {A : Type 0} (xs : List A) → length xs ≡ 0 → xs ≡ []
no_bytes [] h = refl
no_bytes (x ∷ xs) h = absurd (omega (arith, h))

pub first_line-ended : (n : ℕ) (text : List ℕ) → list_all (is_other 10) (take n text) ≡ true → ends_at 10 (drop n text) ≡ true → 1 ≤ length (drop n text) → lines_of text ≡ unreturned (take n text) ∷ lines_of (take (length (drop n text) - 1) (drop 1 (drop n text)))
first_line-ended n text front ends some =
    let whole : text ≡ take n text ++ 10 ∷ drop 1 (drop n text) = sym (take-append-drop n text) ∙ ap (λ (t : List ℕ). take n text ++ t) (begins 10 (drop n text) ends some) in
    ap lines_of whole ∙ line_ended (take n text) (drop 1 (drop n text)) front ∙ ap (λ (t : List ℕ). unreturned (take n text) ∷ lines_of t) (sym (take_rest (drop n text) 1))

line_open-some : (text : List ℕ) → 1 ≤ length text → list_all (is_other 10) text ≡ true → lines_of text ≡ text ∷ []
line_open-some [] some h = absurd (omega arith)
line_open-some (b ∷ bs) some h = line_open b bs h

pub first_line-open : (n : ℕ) (text : List ℕ) → list_all (is_other 10) (take n text) ≡ true → length (drop n text) ≡ 0 → 1 ≤ length text → lines_of text ≡ take n text ∷ lines_of (drop n text)
first_line-open n text front ends some =
    let none = no_bytes (drop n text) ends in
    let whole : text ≡ take n text = sym (take-append-drop n text) ∙ ap (λ (t : List ℕ). take n text ++ t) none ∙ append-nil (take n text) in
    let read : lines_of (take n text) ≡ take n text ∷ [] = line_open-some (take n text) (omega (arith, some, ap (λ (t : List ℕ). length t) whole)) front in
    ap lines_of whole ∙ read ∙ ap (λ (t : List ℕ). take n text ∷ lines_of t) (sym none)

pub unreturned-last : (xs : List ℕ) (n : ℕ) → length xs ≡ n + 1 → get_or (drop n xs) 0 0 ≡ 13 → take n xs ≡ unreturned xs
unreturned-last [] n long last = absurd (omega (arith, long))
unreturned-last (b ∷ []) zero long last =
    let here : (b == 13) ≡ true = grind (arith, nat_tests) in
    rw here refl
unreturned-last (b ∷ []) (suc n) long last = absurd (omega (arith, long))
unreturned-last (b ∷ c ∷ cs) zero long last = absurd (omega (arith, long))
unreturned-last (b ∷ c ∷ cs) (suc n) long last =
    rw (and_false (b == 13)) (ap (λ (t : List ℕ). b ∷ t) (unreturned-last (c ∷ cs) n (omega (arith, long)) last))

pub unreturned-other : (xs : List ℕ) (n : ℕ) → length xs ≡ n + 1 → get_or (drop n xs) 0 0 ≢ 13 → xs ≡ unreturned xs
unreturned-other [] n long last = absurd (omega (arith, long))
unreturned-other (b ∷ []) zero long last =
    let here : (b == 13) ≡ false = grind (arith, nat_tests) in
    rw here refl
unreturned-other (b ∷ []) (suc n) long last = absurd (omega (arith, long))
unreturned-other (b ∷ c ∷ cs) zero long last = absurd (omega (arith, long))
unreturned-other (b ∷ c ∷ cs) (suc n) long last =
    rw (and_false (b == 13)) (ap (λ (t : List ℕ). b ∷ t) (unreturned-other (c ∷ cs) n (omega (arith, long)) last))

-- ---- words

word_goes_on : (b : ℕ) (bs : List ℕ) → is_blank b ≡ false → ends_word bs ≡ false → words_of (b ∷ bs) ≡ onto_first b (words_of bs)
word_goes_on b bs p q = rw (p, q) refl

pub word_front : (b : ℕ) (bs rest : List ℕ) → list_all (λ x. not (is_blank x)) (b ∷ bs) ≡ true → ends_word rest ≡ true → words_of (b ∷ (bs ++ rest)) ≡ (b ∷ bs) ∷ words_of rest
word_front b [] rest h ends =
    let k = both_hold (not (is_blank b)) true h in
    rw (not_true (is_blank b) k.0, ends) refl
word_front b (c ∷ cs) rest h ends =
    let k = both_hold (not (is_blank b)) (list_all (λ x. not (is_blank x)) (c ∷ cs)) h in
    let next = both_hold (not (is_blank c)) (list_all (λ x. not (is_blank x)) cs) k.1 in
    word_goes_on b (c ∷ (cs ++ rest)) (not_true (is_blank b) k.0) (not_true (is_blank c) next.0) ∙ ap (onto_first b) (word_front c cs rest k.1 ends)

-- a word at the front of a text that begins with no blank
pub word_front-taken : (n : ℕ) (text : List ℕ) → list_all (λ x. not (is_blank x)) (take n text) ≡ true → ends_word (drop n text) ≡ true → 1 ≤ length text → ends_word text ≡ false → words_of text ≡ take n text ∷ words_of (drop n text)
word_front-taken n [] front ends some begun = absurd (omega arith)
word_front-taken zero (b ∷ bs) front ends some begun = absurd (true≢false (sym ends ∙ begun))
word_front-taken (suc n) (b ∷ bs) front ends some begun =
    ap (λ (t : List ℕ). words_of (b ∷ t)) (sym (take-append-drop n bs)) ∙ word_front b (take n bs) (drop n bs) front ends

pub ends_word-first : (text : List ℕ) → 1 ≤ length text → ends_word text ≡ is_blank (get_or text 0 0)
ends_word-first [] some = absurd (omega arith)
ends_word-first (b ∷ bs) some = refl

-- one word more
pub words_grown : (old grown : List (Bor (List ℕ))) (w : Bor (List ℕ)) (word : List ℕ) (rest after all : List (List ℕ)) → grown ≡ old ++ w ∷ [] → w.now ≡ word → rest ≡ word ∷ after → seen old ++ rest ≡ all → seen grown ++ after ≡ all
words_grown old grown w word rest after all is same first so_far =
    ap (λ (ws : List (Bor (List ℕ))). seen ws ++ after) is
    ∙ ap (λ (ws : List (List ℕ)). ws ++ after) (map-append (λ (x : Bor (List ℕ)). x.now) old (w ∷ []))
    ∙ append_assoc (seen old) (w.now ∷ []) after
    ∙ ap (λ (t : List ℕ). seen old ++ t ∷ after) same
    ∙ ap (λ (ws : List (List ℕ)). seen old ++ ws) (sym first)
    ∙ so_far

-- ---- the parts of a word

same_byte : (c : ℕ) → (c == c) ≡ true
same_byte c = grind (arith, nat_tests)

pub part_cut : (c : ℕ) (front rest : List ℕ) → list_all (is_other c) front ≡ true → parts_at c (front ++ c ∷ rest) ≡ front ∷ parts_at c rest
part_cut c [] rest h = rw (same_byte c) refl
part_cut c (b ∷ bs) rest h =
    let k = both_hold (is_other c b) (list_all (is_other c) bs) h in
    rw (not_true (b == c) k.0) (ap (onto_first b) (part_cut c bs rest k.1))

pub part_whole : (c : ℕ) (w : List ℕ) → list_all (is_other c) w ≡ true → parts_at c w ≡ w ∷ []
part_whole c [] h = refl
part_whole c (b ∷ bs) h =
    let k = both_hold (is_other c b) (list_all (is_other c) bs) h in
    rw (not_true (b == c) k.0) (ap (onto_first b) (part_whole c bs k.1))

pub cut-here : (c n : ℕ) (word : List ℕ) → list_all (is_other c) (take n word) ≡ true → ends_at c (drop n word) ≡ true → 1 ≤ length (drop n word) → parts_at c word ≡ take n word ∷ parts_at c (take (length (drop n word) - 1) (drop 1 (drop n word)))
cut-here c n word front ends some =
    let whole : word ≡ take n word ++ c ∷ drop 1 (drop n word) = sym (take-append-drop n word) ∙ ap (λ (t : List ℕ). take n word ++ t) (begins c (drop n word) ends some) in
    ap (parts_at c) whole ∙ part_cut c (take n word) (drop 1 (drop n word)) front ∙ ap (λ (t : List ℕ). take n word ∷ parts_at c t) (sym (take_rest (drop n word) 1))

pub cut-none : (c n : ℕ) (word : List ℕ) → list_all (is_other c) (take n word) ≡ true → length (drop n word) ≡ 0 → parts_at c word ≡ word ∷ []
cut-none c n word front ends =
    let none = no_bytes (drop n word) ends in
    let whole : word ≡ take n word = sym (take-append-drop n word) ∙ ap (λ (t : List ℕ). take n word ++ t) none ∙ append-nil (take n word) in
    ap (parts_at c) whole ∙ part_whole c (take n word) front ∙ ap (λ (t : List ℕ). t ∷ []) (sym whole)

-- more parts than two, and than three
pub record AreMore (c : ℕ) (w : List ℕ) : Type 0 where
  pub first : List ℕ
  pub others : List (List ℕ)
  pub whole : parts_at c w ≡ first ∷ others

onto-some : (b : ℕ) (ws : List (List ℕ)) → (first : List ℕ) × (others : List (List ℕ)) × (onto_first b ws ≡ first ∷ others)
onto-some b [] = (_, _, refl)
onto-some b (w ∷ ws) = (_, _, refl)

pub some_parts : (c : ℕ) (w : List ℕ) → AreMore c w
some_parts c [] = record { first = _; others = _; whole = refl }
some_parts c (b ∷ bs) = elim (cases_bool (b == c)) [
  | inl here ↦ record { first = []; others = parts_at c bs; whole = rw here refl }
  | inr apart ↦ let k = onto-some b (parts_at c bs) in record { first = k.0; others = k.1; whole = rw apart k.2 }
]

pub more_than_two : (c : ℕ) (word a b d rest : List ℕ) → parts_at c word ≡ a ∷ parts_at c b → parts_at c b ≡ d ∷ parts_at c rest → two_parts (parts_at c word) ≡ None
more_than_two c word a b d rest first second =
    let k = some_parts c rest in
    rw (first, second, k.whole) refl

pub more_than_three : (c : ℕ) (word a b d e f rest : List ℕ) → parts_at c word ≡ a ∷ parts_at c b → parts_at c b ≡ d ∷ parts_at c e → parts_at c e ≡ f ∷ parts_at c rest → three_parts (parts_at c word) ≡ None
more_than_three c word a b d e f rest first second third =
    let k = some_parts c rest in
    rw (first, second, third, k.whole) refl
