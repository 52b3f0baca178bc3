-- Numbers and bytes, digit by digit.
use Rattle.std.proofs.Common.{◌≡◌, ℕ, ◌+◌, ◌-◌, ◌*◌, ◌%◌, ◌<◌, ◌≤◌, length, take, drop, get_or, true, false, List, [], ◌∷◌, ◌++◌, Bool, Option, Some, None, append_assoc, slice_set, ◌⊎◌, refl, sym, ap, ◌∙◌, arith, inl, inr}
use Rattle.std.specs.Prelude.{nat_le, nat_lt, ◌&&◌, if◌then◌else◌}
use Rattle.std.proofs.lemmas.Bool.Decides.{nat_tests}
use Rattle.std.proofs.lemmas.List.{length-drop, get_or-drop, drop-drop}
use Rattle.std.proofs.lemmas.Grind.{take-set_at}
use Rattle.board_model.specs.FileWords.{is_digit, number_from, digit_value, byte_and, pairs_of}
use Rattle.std.proofs.lemmas.Bool.{and_parts}
use Rattle.board_model.specs.Numerals.{at_most}

-- the byte of two digits
abbrev pub byte_of : Option ℕ → Option ℕ → Option ℕ
byte_of (Some high) (Some low) = Some (high * 16 + low)
byte_of high low = None

-- bytes before those that follow
abbrev pub after_bytes : List ℕ → Option (List ℕ) → Option (List ℕ)
after_bytes front None = None
after_bytes front (Some bytes) = Some (front ++ bytes)

cases_bool : (t : Bool) → (t ≡ true) ⊎ (t ≡ false)
cases_bool true = inl refl
cases_bool false = inr refl

-- a number that is too large stays so, whatever digits follow
grows : (most n : ℕ) (rest : List ℕ) → most < n → at_most most (number_from n rest) ≡ None
grows most n [] large =
    let test : nat_le n most ≡ false = grind (arith, nat_tests) in
    rw test refl
grows most n (b ∷ bs) large = elim (cases_bool (is_digit b)) [
  | inl here ↦ rw here (grows most (n * 10 + (b - 48)) bs (omega (arith, large)))
  | inr apart ↦ rw apart refl
]

pub too_large : (most n : ℕ) (rest all : List ℕ) → 1 ≤ length rest → is_digit (get_or rest 0 0) ≡ true → most < n * 10 + (get_or rest 0 0 - 48) → number_from n rest ≡ number_from 0 all → None ≡ at_most most (number_from 0 all)
too_large most n [] all some digit large same = absurd (omega arith)
too_large most n (b ∷ bs) all some digit large same =
    let step : number_from n (b ∷ bs) ≡ number_from (n * 10 + (b - 48)) bs = rw digit refl in
    sym (ap (at_most most) (sym same ∙ step) ∙ grows most (n * 10 + (b - 48)) bs large)

one_more : (value : ℕ) (front : List ℕ) (h l : Option ℕ) (rest : Option (List ℕ)) → byte_of h l ≡ Some value → after_bytes (front ++ value ∷ []) rest ≡ after_bytes front (byte_and h l rest)
one_more value front None l rest is = absurd cc
one_more value front (Some h) None rest is = absurd cc
one_more value front (Some h) (Some l) None is = refl
one_more value front (Some h) (Some l) (Some bytes) is =
    let same : h * 16 + l ≡ value = cc in
    ap (λ (t : List ℕ). Some t) (append_assoc front (value ∷ []) bytes ∙ ap (λ (v : ℕ). front ++ v ∷ bytes) (sym same))

-- ---- bytes by their places

one_less : (value : ℕ) (front grown : List ℕ) (h l : Option ℕ) (rest : Option (List ℕ)) → byte_of h l ≡ Some value → grown ≡ front ++ value ∷ [] → after_bytes grown rest ≡ after_bytes front (byte_and h l rest)
one_less value front grown h l rest is more = ap (λ (t : List ℕ). after_bytes t rest) more ∙ one_more value front h l rest is

-- one pair more
pub pairs_more : (all front grown rest : List ℕ) (value : ℕ) → 2 ≤ length rest → byte_of (digit_value (get_or rest 0 0)) (digit_value (get_or rest 1 0)) ≡ Some value → grown ≡ front ++ value ∷ [] → after_bytes front (pairs_of rest) ≡ pairs_of all → after_bytes grown (pairs_of (drop 2 rest)) ≡ pairs_of all
pairs_more all front grown [] value some is more so_far = absurd (omega arith)
pairs_more all front grown (a ∷ []) value some is more so_far = absurd (omega arith)
pairs_more all front grown (a ∷ b ∷ ds) value some is more so_far = one_less value front grown (digit_value a) (digit_value b) (pairs_of ds) is more ∙ so_far

no_byte : (h l : Option ℕ) (front : List ℕ) (rest : Option (List ℕ)) → byte_of h l ≡ None → after_bytes front (byte_and h l rest) ≡ None
no_byte None l front rest is = refl
no_byte (Some h) None front rest is = refl
no_byte (Some h) (Some l) front rest is = absurd cc

-- a pair that is none
pub pairs_none : (all front rest : List ℕ) → 2 ≤ length rest → byte_of (digit_value (get_or rest 0 0)) (digit_value (get_or rest 1 0)) ≡ None → after_bytes front (pairs_of rest) ≡ pairs_of all → pairs_of all ≡ None
pairs_none all front [] some is so_far = absurd (omega arith)
pairs_none all front (a ∷ []) some is so_far = absurd (omega arith)
pairs_none all front (a ∷ b ∷ ds) some is so_far = sym so_far ∙ no_byte (digit_value a) (digit_value b) front (pairs_of ds) is

none_and : (h l : Option ℕ) (rest : Option (List ℕ)) → rest ≡ None → byte_and h l rest ≡ None
none_and None l rest is = refl
none_and (Some h) None rest is = refl
none_and (Some h) (Some l) None is = refl
none_and (Some h) (Some l) (Some bytes) is = absurd cc

-- an odd count of digits
pub odd_pairs : (word : List ℕ) → length word % 2 ≡ 1 → pairs_of word ≡ None
odd_pairs [] odd = absurd (omega (arith, odd))
odd_pairs (a ∷ []) odd = refl
odd_pairs (a ∷ b ∷ ds) odd = none_and (digit_value a) (digit_value b) (pairs_of ds) (odd_pairs ds (omega (arith, odd)))

-- ---- a step of the decoder, which writes a byte whether it is one or not

is_value : (digit : Option ℕ) (v : ℕ) → digit ≡ (if nat_lt v 16 then Some v else None) → nat_lt v 16 ≡ true → digit ≡ Some v
is_value digit v value small = value ∙ rw small refl

is_none : (digit : Option ℕ) (v : ℕ) → digit ≡ (if nat_lt v 16 then Some v else None) → nat_lt v 16 ≡ false → digit ≡ None
is_none digit v value large = value ∙ rw large refl

no_low : (high : Option ℕ) → byte_of high None ≡ None
no_low None = refl
no_low (Some h) = refl

same_byte : (high low : ℕ) → nat_lt high 16 ≡ true → nat_lt low 16 ≡ true → high * 16 + low ≡ high % 16 * 16 + low % 16
same_byte high low p q =
    let h : high < 16 = grind (arith, nat_tests, p) in
    let l : low < 16 = grind (arith, nat_tests, q) in
    omega (arith, h, l)

pair_is : (a b : Option ℕ) (high low : ℕ) → a ≡ (if nat_lt high 16 then Some high else None) → b ≡ (if nat_lt low 16 then Some low else None) → (nat_lt high 16 && nat_lt low 16) ≡ true → byte_of a b ≡ Some (high % 16 * 16 + low % 16)
pair_is a b high low p q small =
    let k = and_parts (nat_lt high 16) (nat_lt low 16) small in
    rw (is_value a high p k.0, is_value b low q k.1) (ap (λ (v : ℕ). Some v) (same_byte high low k.0 k.1))

pair_none_at : (t u : Bool) (a b : Option ℕ) (high low : ℕ) → nat_lt high 16 ≡ t → nat_lt low 16 ≡ u → a ≡ (if nat_lt high 16 then Some high else None) → b ≡ (if nat_lt low 16 then Some low else None) → (t && u) ≡ false → byte_of a b ≡ None
pair_none_at true true a b high low h l p q large = absurd cc
pair_none_at true false a b high low h l p q large = rw (is_none b low q l) (no_low a)
pair_none_at false u a b high low h l p q large = rw (is_none a high p h) refl

pair_none : (a b : Option ℕ) (high low : ℕ) → a ≡ (if nat_lt high 16 then Some high else None) → b ≡ (if nat_lt low 16 then Some low else None) → (nat_lt high 16 && nat_lt low 16) ≡ false → byte_of a b ≡ None
pair_none a b high low p q large = pair_none_at (nat_lt high 16) (nat_lt low 16) a b high low refl refl p q large

and_cases : (a b : Bool) → (a && b) ≡ false → (a ≡ false) ⊎ ((a ≡ true) × (b ≡ false))
and_cases true b h = inr (refl, h)
and_cases false b h = inl refl

module _ (word out : List ℕ) (i high low : ℕ) (size : length word ≡ 2 * length out) (within : i < length out)
    (first : digit_value (get_or word (2 * i) 0) ≡ (if nat_lt high 16 then Some high else None)) (second : digit_value (get_or word (2 * i + 1) 0) ≡ (if nat_lt low 16 then Some low else None)) where
  left : length (drop (2 * i) word) ≡ length word - 2 * i
  left = length-drop (2 * i) word

  high_at : digit_value (get_or (drop (2 * i) word) 0 0) ≡ (if nat_lt high 16 then Some high else None)
  high_at = ap digit_value (get_or-drop (2 * i) word 0 0 ∙ ap (λ (k : ℕ). get_or word k 0) (omega arith)) ∙ first

  low_at : digit_value (get_or (drop (2 * i) word) 1 0) ≡ (if nat_lt low 16 then Some low else None)
  low_at = ap digit_value (get_or-drop (2 * i) word 1 0) ∙ second

  pub decoded_more : after_bytes (take i out) (pairs_of (drop (2 * i) word)) ≡ pairs_of word → (nat_lt high 16 && nat_lt low 16) ≡ true → after_bytes (take (i + 1) (slice_set out i (high % 16 * 16 + low % 16))) (pairs_of (drop (2 * (i + 1)) word)) ≡ pairs_of word
  decoded_more so_far small =
      let rest : drop (2 * (i + 1)) word ≡ drop 2 (drop (2 * i) word) = ap (λ (k : ℕ). drop k word) (omega arith) ∙ sym (drop-drop 2 (2 * i) word) in
      rw rest (pairs_more word (take i out) (take (i + 1) (slice_set out i (high % 16 * 16 + low % 16))) (drop (2 * i) word) (high % 16 * 16 + low % 16) (omega (arith, left, size, within)) (pair_is _ _ high low high_at low_at small) (take-set_at out i (i + 1) (high % 16 * 16 + low % 16) refl within) so_far)

  pub decoded_none : after_bytes (take i out) (pairs_of (drop (2 * i) word)) ≡ pairs_of word → (nat_lt high 16 && nat_lt low 16) ≡ false → pairs_of word ≡ None
  decoded_none so_far large = pairs_none word (take i out) (drop (2 * i) word) (omega (arith, left, size, within)) (pair_none _ _ high low high_at low_at large) so_far

  pub decoded_step : (all : Bool) → (all ≡ true → after_bytes (take i out) (pairs_of (drop (2 * i) word)) ≡ pairs_of word) → (all ≡ false → pairs_of word ≡ None) → ((all && (nat_lt high 16 && nat_lt low 16)) ≡ true → after_bytes (take (i + 1) (slice_set out i (high % 16 * 16 + low % 16))) (pairs_of (drop (2 * (i + 1)) word)) ≡ pairs_of word) × ((all && (nat_lt high 16 && nat_lt low 16)) ≡ false → pairs_of word ≡ None)
  decoded_step all good bad = (
    λ h. let k = and_parts all (nat_lt high 16 && nat_lt low 16) h in decoded_more (good k.0) k.1,
    λ h. elim (and_cases all (nat_lt high 16 && nat_lt low 16) h) [
      | inl was ↦ bad was
      | inr now ↦ decoded_none (good now.0) now.1
    ],
  )

pub nothing_before : (bytes : Option (List ℕ)) → after_bytes [] bytes ≡ bytes
nothing_before None = refl
nothing_before (Some bytes) = refl
