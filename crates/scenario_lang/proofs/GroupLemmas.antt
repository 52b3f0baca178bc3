-- Labels with commas between them: their text is taken apart at its commas, and the parts of a word give the word again.
use Rattle.std.proofs.Common.{◌≡◌, ℕ, ◌+◌, ◌*◌, ◌≤◌, ◌<◌, Bool, true, false, not, ◌&&◌, ◌||◌, cond, List, [], ◌∷◌, ◌++◌, length, map, append_assoc, Some, None, refl, sym, ap, ◌∙◌, arith, length-append, inl, inr}
use Rattle.std.specs.Prelude.{nat_le, ◌==◌}
use Rattle.std.specs.List.{list_all}
use Rattle.std.proofs.lemmas.Bool.{and_parts, and_from}
use Rattle.std.proofs.lemmas.Bool.Decides.{nat_tests}
use Rattle.std.proofs.lemmas.List.{length-map}
use Rattle.std.proofs.lemmas.List.Folds.{list_all-append}
use Rattle.arrayvec.specs.ArrayVec.{ArrayVec}
use Rattle.board_model.specs.FileLines.{onto_first, parts_at}
use Rattle.board_model.specs.FileWords.{is_letter_byte, is_label_byte, is_label}
use Rattle.board_model.specs.Numerals.{is_other}
use Rattle.board_model.specs.declared.scenario.Scenario.{Scenario}
use Rattle.board_model.specs.Forms.{label_of, are_labels, group_limit, gives_request, request_label}
use Rattle.board_model.specs.LineReasons.{is_told_of, names_wrong_label}
use Rattle.scenario_lang.specs.Reading.{labels_of}
use Rattle.board_model.specs.Grammar.{with_commas}
use Rattle.board_model.proofs.LawfulForms.{IsGroup, spelled_back}
use Rattle.scenario_lang.proofs.Options.{cases_bool}
use Rattle.scenario_lang.proofs.SpacedLemmas.{is_seen}
use Rattle.scenario_lang.proofs.PlainLemmas.{IsPlain, seen_label, all_seen, first_no_sign}
use Rattle.scenario_lang.proofs.FrontLemmas.{some_parts, part_cut, part_whole}

-- ---- words are their parts with commas between them

onto_commas : (b : ℕ) (ws : List (List ℕ)) → with_commas (onto_first b ws) ≡ b ∷ with_commas ws
onto_commas b [] = refl
onto_commas b (w ∷ []) = refl
onto_commas b (w ∷ v ∷ ws) = refl

comma_first : (bs : List ℕ) → with_commas ([] ∷ parts_at 44 bs) ≡ 44 ∷ with_commas (parts_at 44 bs)
comma_first bs = let parts = some_parts 44 bs in rw parts.whole refl

pub commas-back : (word : List ℕ) → with_commas (parts_at 44 word) ≡ word
commas-back [] = refl
commas-back (b ∷ bs) = elim (cases_bool (b == 44)) [
  | inl here ↦
      let is : 44 ≡ b = grind (arith, nat_tests) in
      ap (λ c. with_commas (cond c ([] ∷ parts_at 44 bs) (onto_first b (parts_at 44 bs)))) here ∙ comma_first bs ∙ ap (λ (t : List ℕ). 44 ∷ t) (commas-back bs) ∙ ap (λ (c : ℕ). c ∷ bs) is
  | inr other ↦
      ap (λ c. with_commas (cond c ([] ∷ parts_at 44 bs) (onto_first b (parts_at 44 bs)))) other ∙ onto_commas b (parts_at 44 bs) ∙ ap (λ (t : List ℕ). b ∷ t) (commas-back bs)
]

-- ---- the text of labels

no_comma_byte : (b : ℕ) → is_label_byte b ≡ true → is_other 44 b ≡ true
no_comma_byte b labels =
    let seen = seen_label b labels in
    elim (cases_bool (is_letter_byte b)) [
      | inl letter ↦ grind (arith, nat_tests)
      | inr other ↦ elim (cases_bool (nat_le 48 b && nat_le b 57)) [
        | inl digit ↦ grind (arith, nat_tests)
        | inr neither ↦ let line : (b == 95) ≡ true = rw (other, neither) at labels in grind (arith, nat_tests)
      ]
    ]

all_weaker : (p q : ℕ → Bool) → ((b : ℕ) → p b ≡ true → q b ≡ true) → (bs : List ℕ) → list_all p bs ≡ true → list_all q bs ≡ true
all_weaker p q weaker [] all = refl
all_weaker p q weaker (b ∷ bs) all = let parts = and_parts (p b) (list_all p bs) all in and_from (q b) (list_all q bs) (weaker b parts.0) (all_weaker p q weaker bs parts.1)

-- a label begins with a letter, and has bytes of labels alone, 16 at most
record IsLabel (l : List ℕ) : Type 0 where
  bytes : list_all is_label_byte l ≡ true
  few : length l ≤ 16

label_bytes : (l : List ℕ) → is_label l ≡ true → IsLabel l
label_bytes [] h = absurd cc
label_bytes (b ∷ bs) h =
    let first = and_parts (is_letter_byte b && nat_le (length bs) 15) (list_all is_label_byte bs) h in
    let second = and_parts (is_letter_byte b) (nat_le (length bs) 15) first.0 in
    let letter = second.0 in
    let short = second.1 in
    let few : length bs ≤ 15 = grind (arith, nat_tests) in
    let byte : is_label_byte b ≡ true = grind (arith, nat_tests) in
    record { bytes = and_from (is_label_byte b) (list_all is_label_byte bs) byte first.1; few = omega (arith, few) }

pub commas-parts : (w : List ℕ) (ws : List (List ℕ)) → list_all is_label (w ∷ ws) ≡ true → parts_at 44 (with_commas (w ∷ ws)) ≡ w ∷ ws
commas-parts w [] all =
    let first = and_parts (is_label w) true all in
    part_whole 44 w (all_weaker is_label_byte (is_other 44) no_comma_byte w (label_bytes w first.0).bytes)
commas-parts w (v ∷ vs) all =
    let both = and_parts (is_label w) (list_all is_label (v ∷ vs)) all in
    part_cut 44 w (with_commas (v ∷ vs)) (all_weaker is_label_byte (is_other 44) no_comma_byte w (label_bytes w both.0).bytes)
    ∙ ap (λ (ps : List (List ℕ)). w ∷ ps) (commas-parts v vs both.1)

commas_seen : (w : List ℕ) (ws : List (List ℕ)) → list_all is_label (w ∷ ws) ≡ true → list_all is_seen (with_commas (w ∷ ws)) ≡ true
commas_seen w [] all =
    let first = and_parts (is_label w) true all in
    all_seen is_label_byte seen_label w (label_bytes w first.0).bytes
commas_seen w (v ∷ vs) all =
    let both = and_parts (is_label w) (list_all is_label (v ∷ vs)) all in
    list_all-append is_seen w (44 ∷ with_commas (v ∷ vs))
    ∙ and_from (list_all is_seen w) (list_all is_seen (with_commas (v ∷ vs))) (all_seen is_label_byte seen_label w (label_bytes w both.0).bytes) (commas_seen v vs both.1)

commas_few : (w : List ℕ) (ws : List (List ℕ)) → list_all is_label (w ∷ ws) ≡ true → length (with_commas (w ∷ ws)) + 1 ≤ 17 * length (w ∷ ws)
commas_few w [] all =
    let first = and_parts (is_label w) true all in
    omega (arith, (label_bytes w first.0).few)
commas_few w (v ∷ vs) all =
    let both = and_parts (is_label w) (list_all is_label (v ∷ vs)) all in
    omega (arith, (label_bytes w both.0).few, length-append w (44 ∷ with_commas (v ∷ vs)), commas_few v vs both.1)

begins_plain : (b : ℕ) (bs : List ℕ) → is_letter_byte b ≡ true → list_all is_seen (b ∷ bs) ≡ true → length (b ∷ bs) ≤ 135 → IsPlain 135 (b ∷ bs)
begins_plain b bs letter seen few =
    let other : (b == 61) ≡ false = grind (arith, nat_tests) in
    record { is = seen; no_sign = first_no_sign b bs other; few = few }

commas_first : (b : ℕ) (bs : List ℕ) (ws : List (List ℕ)) → list_all is_label ((b ∷ bs) ∷ ws) ≡ true → length (with_commas ((b ∷ bs) ∷ ws)) ≤ 135 → IsPlain 135 (with_commas ((b ∷ bs) ∷ ws))
commas_first b bs ws all few =
    let both = and_parts (is_label (b ∷ bs)) (list_all is_label ws) all in
    let first = and_parts (is_letter_byte b && nat_le (length bs) 15) (list_all is_label_byte bs) both.0 in
    let letter = (and_parts (is_letter_byte b) (nat_le (length bs) 15) first.0).0 in
    go ws letter (commas_seen (b ∷ bs) ws all) few
  where
    go : (ws : List (List ℕ)) → is_letter_byte b ≡ true → list_all is_seen (with_commas ((b ∷ bs) ∷ ws)) ≡ true → length (with_commas ((b ∷ bs) ∷ ws)) ≤ 135 → IsPlain 135 (with_commas ((b ∷ bs) ∷ ws))
    go [] letter seen few = begins_plain b bs letter seen few
    go (v ∷ vs) letter seen few = begins_plain b (bs ++ 44 ∷ with_commas (v ∷ vs)) letter seen few

commas_plain : (ws : List (List ℕ)) → 1 ≤ length ws → length ws ≤ group_limit → list_all is_label ws ≡ true → IsPlain 135 (with_commas ws)
commas_plain [] some few all = absurd (omega (arith, some))
commas_plain ([] ∷ ws) some few all = absurd cc
commas_plain ((b ∷ bs) ∷ ws) some few all = commas_first b bs ws all (omega (arith, few, commas_few (b ∷ bs) ws all))

-- ---- a group of labels

module _ (labels : List (ArrayVec ℕ)) (h : IsGroup labels) where
  pub group-plain : IsPlain 135 (with_commas (map (λ l. l.items) labels))
  group-plain = commas_plain (map (λ l. l.items) labels) (omega (arith, h.some, length-map labels (λ l. l.items))) (omega (arith, h.few, length-map labels (λ l. l.items))) h.are_labels

  pub group-parts : parts_at 44 (with_commas (map (λ l. l.items) labels)) ≡ map (λ l. l.items) labels
  group-parts = go (map (λ l. l.items) labels) (omega (arith, h.some, length-map labels (λ l. l.items))) h.are_labels
    where
      go : (ws : List (List ℕ)) → 1 ≤ length ws → list_all is_label ws ≡ true → parts_at 44 (with_commas ws) ≡ ws
      go [] some all = absurd (omega (arith, some))
      go (w ∷ ws) some all = commas-parts w ws all

  pub group-fits : are_labels (parts_at 44 (with_commas (map (λ l. l.items) labels))) ≡ true
  group-fits =
      let few : length (map (λ (l : ArrayVec ℕ). l.items) labels) ≤ 8 = omega (arith, h.few, length-map labels (λ l. l.items)) in
      let fits : nat_le (length (map (λ (l : ArrayVec ℕ). l.items) labels)) group_limit ≡ true = grind (arith, nat_tests) in
      ap are_labels group-parts ∙ and_from (list_all is_label (map (λ l. l.items) labels)) (nat_le (length (map (λ l. l.items) labels)) group_limit) h.are_labels fits

labels_again : (labels : List (ArrayVec ℕ)) → map label_of (map (λ l. l.items) labels) ≡ labels
labels_again [] = refl
labels_again (l ∷ ls) = ap (λ (ms : List (ArrayVec ℕ)). l ∷ ms) (labels_again ls)

pub group-back : (labels : List (ArrayVec ℕ)) → IsGroup labels → map label_of (parts_at 44 (with_commas (map (λ l. l.items) labels))) ≡ labels
group-back labels h = ap (map label_of) (group-parts labels h) ∙ labels_again labels

-- the labels of a word that is read are those of their text
pub group-same : (word : List ℕ) → with_commas (map (λ (l : ArrayVec ℕ). l.items) (map label_of (parts_at 44 word))) ≡ word
group-same word = ap with_commas (spelled_back (parts_at 44 word)) ∙ commas-back word

-- ---- a word whose labels are read one by one

-- so many labels were read of a word, and this is its rest
pub record AreRead (word : List ℕ) (labels : List (ArrayVec ℕ)) (rest : List ℕ) (n : ℕ) : Type 0 where
  pub items : map label_of (parts_at 44 word) ≡ labels ++ map label_of (parts_at 44 rest)
  pub fit : list_all is_label (parts_at 44 word) ≡ list_all is_label (parts_at 44 rest)
  pub count : length (parts_at 44 word) ≡ n + length (parts_at 44 rest)
  pub many : length labels ≡ n

pub none-read : (word : List ℕ) → AreRead word [] word 0
none-read word = record { items = refl; fit = refl; count = omega arith; many = refl }

pub one-read : (word : List ℕ) (labels : List (ArrayVec ℕ)) (rest first after : List ℕ) (n : ℕ) → AreRead word labels rest n → parts_at 44 rest ≡ first ∷ parts_at 44 after → is_label first ≡ true → AreRead word (labels ++ label_of first ∷ []) after (n + 1)
one-read word labels rest first after n h cut is = record {
  items = h.items ∙ ap (λ (ps : List (List ℕ)). labels ++ map label_of ps) cut ∙ sym (append_assoc labels (label_of first ∷ []) (map label_of (parts_at 44 after)));
  fit = h.fit ∙ ap (list_all is_label) cut ∙ ap (λ b. b && list_all is_label (parts_at 44 after)) is;
  count = omega (arith, h.count, ap (λ (ps : List (List ℕ)). length ps) cut);
  many = omega (arith, h.many, length-append labels (label_of first ∷ []));
}

module _ (word : List ℕ) (labels : List (ArrayVec ℕ)) (rest : List ℕ) (n : ℕ) (h : AreRead word labels rest n) where
  -- the last label of a word that has the form
  pub last-read : n ≤ 7 → parts_at 44 rest ≡ rest ∷ [] → is_label rest ≡ true → labels_of word ≡ Some (record { items = labels ++ label_of rest ∷ [] })
  last-read few cut is =
      let count : length (parts_at 44 word) ≤ 8 = omega (arith, few, h.count, ap (λ (ps : List (List ℕ)). length ps) cut) in
      let fits : nat_le (length (parts_at 44 word)) group_limit ≡ true = grind (arith, nat_tests) in
      let all : list_all is_label (parts_at 44 word) ≡ true = h.fit ∙ ap (list_all is_label) cut ∙ ap (λ b. b && true) is in
      ap (λ b. cond b (Some (record { items = map label_of (parts_at 44 word) })) None) (and_from (list_all is_label (parts_at 44 word)) (nat_le (length (parts_at 44 word)) group_limit) all fits)
      ∙ ap (λ (ls : List (ArrayVec ℕ)). Some (record { items = ls })) (h.items ∙ ap (λ (ps : List (List ℕ)). labels ++ map label_of ps) cut)

  -- a word that is no label among them
  pub no-label : (first : List ℕ) (others : List (List ℕ)) → parts_at 44 rest ≡ first ∷ others → is_label first ≡ false → labels_of word ≡ None
  no-label first others cut is =
      let none : list_all is_label (parts_at 44 word) ≡ false = h.fit ∙ ap (list_all is_label) cut ∙ ap (λ b. b && list_all is_label others) is in
      ap (λ b. cond (b && nat_le (length (parts_at 44 word)) group_limit) (Some (record { items = map label_of (parts_at 44 word) })) None) none

  -- too many
  pub too-many : 8 ≤ n → labels_of word ≡ None
  too-many many =
      let more = some_parts 44 rest in
      let count : 8 < length (parts_at 44 word) = omega (arith, many, h.count, ap (λ (ps : List (List ℕ)). length ps) more.whole) in
      let over : nat_le (length (parts_at 44 word)) group_limit ≡ false = grind (arith, nat_tests) in
      ap (λ b. cond (list_all is_label (parts_at 44 word) && b) (Some (record { items = map label_of (parts_at 44 word) })) None) over
      ∙ ap (λ b. cond b (Some (record { items = map label_of (parts_at 44 word) })) None) (and_false (list_all is_label (parts_at 44 word)))
    where
      and_false : (b : Bool) → (b && false) ≡ false
      and_false true = refl
      and_false false = refl

-- ---- labels that are named, one by one

module _ (above : Scenario) (d : ℕ) where
  -- the first of several that is named is not wrong
  pub next-named : (word first after : List ℕ) → parts_at 44 word ≡ first ∷ parts_at 44 after → is_told_of gives_request above d first ≡ true →
      names_wrong_label above d (map request_label (parts_at 44 word)) ≡ names_wrong_label above d (map request_label (parts_at 44 after))
  next-named word first after cut told =
      ap (λ (ps : List (List ℕ)). names_wrong_label above d (map request_label ps)) cut
      ∙ ap (λ b. not b || names_wrong_label above d (map request_label (parts_at 44 after))) told

  -- and here it is
  pub wrong-named : (word first : List ℕ) (others : List (List ℕ)) → parts_at 44 word ≡ first ∷ others → is_told_of gives_request above d first ≡ false → names_wrong_label above d (map request_label (parts_at 44 word)) ≡ true
  wrong-named word first others cut told =
      ap (λ (ps : List (List ℕ)). names_wrong_label above d (map request_label ps)) cut
      ∙ ap (λ b. not b || names_wrong_label above d (map request_label others)) told

  pub last-named : (word : List ℕ) → parts_at 44 word ≡ word ∷ [] → names_wrong_label above d (map request_label (parts_at 44 word)) ≡ not (is_told_of gives_request above d word)
  last-named word cut = ap (λ (ps : List (List ℕ)). names_wrong_label above d (map request_label ps)) cut ∙ or_false (not (is_told_of gives_request above d word))
    where
      or_false : (b : Bool) → (b || false) ≡ b
      or_false true = refl
      or_false false = refl
