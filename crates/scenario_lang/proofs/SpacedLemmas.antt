-- Lines of words with one space between them: they are read as those lines, and as those words.
use Rattle.std.proofs.Common.{◌≡◌, ℕ, ◌+◌, ◌≤◌, Bool, true, false, ◌&&◌, List, [], ◌∷◌, ◌++◌, map, length, refl, sym, ap, ◌∙◌, append_assoc, length-append, arith}
use Rattle.std.specs.Prelude.{nat_le, ◌==◌}
use Rattle.std.specs.List.{list_all, flat_map, AllByRecursion}
use Rattle.std.proofs.lemmas.Bool.{and_parts, and_from}
use Rattle.std.proofs.lemmas.Bool.Decides.{nat_tests}
use Rattle.std.proofs.lemmas.List.{append-nil}
use Rattle.std.proofs.lemmas.List.Folds.{list_all-append}
use Rattle.board_model.specs.Grammar.{spaced}
use Rattle.board_model.specs.FileLines.{onto_first, lines_of, is_blank, ends_word, words_of}
use Rattle.board_model.specs.LineReasons.{is_text_byte}

-- a byte that is seen: no space, tab, newline or return
abbrev pub is_seen : ℕ → Bool
is_seen b = nat_le 33 b && nat_le b 126

abbrev pub is_word : List ℕ → Bool
is_word [] = false
is_word (b ∷ bs) = list_all is_seen (b ∷ bs)

-- each item of the list passes
pub all-pass : {A : Type 0} (p : A → Bool) (xs : List A) → AllByRecursion (λ x. p x ≡ true) xs → list_all p xs ≡ true
all-pass p [] all = refl
all-pass p (x ∷ xs) all = and_from (p x) (list_all p xs) all.0 (all-pass p xs all.1)

-- ---- words

seen_no_blank : (b : ℕ) → is_seen b ≡ true → is_blank b ≡ false
seen_no_blank b seen = grind (arith, nat_tests)

seen_text : (b : ℕ) → is_seen b ≡ true → is_text_byte b ≡ true
seen_text b seen = grind (arith, nat_tests)

word_goes_on : (b c : ℕ) (bs : List ℕ) → is_blank b ≡ false → is_blank c ≡ false → words_of (b ∷ c ∷ bs) ≡ onto_first b (words_of (c ∷ bs))
word_goes_on b c bs first second = rw (first, second) refl

word_then : (b : ℕ) (bs rest : List ℕ) → list_all is_seen (b ∷ bs) ≡ true → ends_word rest ≡ true → words_of (b ∷ (bs ++ rest)) ≡ (b ∷ bs) ∷ words_of rest
word_then b [] rest all ends =
    let first = seen_no_blank b (and_parts (is_seen b) true all).0 in
    rw (first, ends) refl
word_then b (c ∷ cs) rest all ends =
    let parts = and_parts (is_seen b) (list_all is_seen (c ∷ cs)) all in
    let first = seen_no_blank b parts.0 in
    let second = seen_no_blank c (and_parts (is_seen c) (list_all is_seen cs) parts.1).0 in
    word_goes_on b c (cs ++ rest) first second ∙ ap (onto_first b) (word_then c cs rest parts.1 ends)

words_then : (w rest : List ℕ) → is_word w ≡ true → ends_word rest ≡ true → words_of (w ++ rest) ≡ w ∷ words_of rest
words_then [] rest word ends = absurd cc
words_then (b ∷ bs) rest word ends = word_then b bs rest word ends

pub words_of-spaced : (ws : List (List ℕ)) → list_all is_word ws ≡ true → words_of (spaced ws) ≡ ws
words_of-spaced [] all = refl
words_of-spaced (w ∷ []) all = ap words_of (sym (append-nil w)) ∙ words_then w [] (and_parts (is_word w) true all).0 refl
words_of-spaced (w ∷ v ∷ ws) all =
    let parts = and_parts (is_word w) (list_all is_word (v ∷ ws)) all in
    words_then w (32 ∷ spaced (v ∷ ws)) parts.0 refl ∙ ap (λ (vs : List (List ℕ)). w ∷ vs) (words_of-spaced (v ∷ ws) parts.1)

-- ---- bytes

seen_all : (bs : List ℕ) → list_all is_seen bs ≡ true → list_all is_text_byte bs ≡ true
seen_all [] all = refl
seen_all (b ∷ bs) all = let parts = and_parts (is_seen b) (list_all is_seen bs) all in and_from (is_text_byte b) (list_all is_text_byte bs) (seen_text b parts.0) (seen_all bs parts.1)

word_text : (w : List ℕ) → is_word w ≡ true → list_all is_text_byte w ≡ true
word_text [] word = absurd cc
word_text (b ∷ bs) word = seen_all (b ∷ bs) word

pub text-spaced : (ws : List (List ℕ)) → list_all is_word ws ≡ true → list_all is_text_byte (spaced ws) ≡ true
text-spaced [] all = refl
text-spaced (w ∷ []) all = word_text w (and_parts (is_word w) true all).0
text-spaced (w ∷ v ∷ ws) all =
    let parts = and_parts (is_word w) (list_all is_word (v ∷ ws)) all in
    list_all-append is_text_byte w (32 ∷ spaced (v ∷ ws))
    ∙ and_from (list_all is_text_byte w) (list_all is_text_byte (spaced (v ∷ ws))) (word_text w parts.0) (text-spaced (v ∷ ws) parts.1)

-- the bytes of words, each with one more
abbrev pub room : List (List ℕ) → ℕ
room [] = 0
room (w ∷ ws) = length w + 1 + room ws

pub length-spaced : (ws : List (List ℕ)) → length (spaced ws) ≤ room ws
length-spaced [] = omega arith
length-spaced (w ∷ []) = omega arith
length-spaced (w ∷ v ∷ ws) = omega (arith, length-append w (32 ∷ spaced (v ∷ ws)), length-spaced (v ∷ ws))

pub room-append : (vs ws : List (List ℕ)) → room (vs ++ ws) ≡ room vs + room ws
room-append [] ws = omega arith
room-append (v ∷ vs) ws = omega (arith, room-append vs ws)

-- ---- lines

text_no_end : (b : ℕ) → is_text_byte b ≡ true → (b == 10) ≡ false
text_no_end b text = grind (arith, nat_tests)

text_no_return : (b : ℕ) → is_text_byte b ≡ true → (b == 13) ≡ false
text_no_return b text = grind (arith, nat_tests)

line_then : (line rest : List ℕ) → list_all is_text_byte line ≡ true → lines_of (line ++ 10 ∷ rest) ≡ line ∷ lines_of rest
line_then [] rest text = refl
line_then (b ∷ bs) rest text =
    let parts = and_parts (is_text_byte b) (list_all is_text_byte bs) text in
    rw (text_no_end b parts.0, text_no_return b parts.0) (ap (onto_first b) (line_then bs rest parts.1))

abbrev pub IsText : List ℕ → Type 0
IsText line = list_all is_text_byte line ≡ true

-- texts that are lines with newlines
pub lines_of-all : {A : Type 0} (line : A → List ℕ) (xs : List A) (rest : List ℕ) → AllByRecursion IsText (map line xs) → lines_of (flat_map (λ x. line x ++ 10 ∷ []) xs ++ rest) ≡ map line xs ++ lines_of rest
lines_of-all line [] rest all = refl
lines_of-all line (x ∷ xs) rest all =
    let text : flat_map (λ y. line y ++ 10 ∷ []) (x ∷ xs) ++ rest ≡ line x ++ 10 ∷ (flat_map (λ y. line y ++ 10 ∷ []) xs ++ rest) = append_assoc (line x ++ 10 ∷ []) (flat_map (λ y. line y ++ 10 ∷ []) xs) rest ∙ append_assoc (line x) (10 ∷ []) (flat_map (λ y. line y ++ 10 ∷ []) xs ++ rest) in
    ap lines_of text
    ∙ line_then (line x) (flat_map (λ y. line y ++ 10 ∷ []) xs ++ rest) all.0
    ∙ ap (λ (ls : List (List ℕ)). line x ∷ ls) (lines_of-all line xs rest all.1)
