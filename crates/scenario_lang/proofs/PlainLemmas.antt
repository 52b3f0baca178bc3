-- Numbers and labels as words of a canonical line: each is a word that is no sign, and is short.
use Rattle.std.proofs.Common.{◌≡◌, ℕ, ◌^◌, ◌<◌, ◌≤◌, Bool, true, false, ◌&&◌, List, [], ◌∷◌, ◌++◌, length, refl, sym, ap, ◌∙◌, arith, inl, inr}
use Rattle.std.specs.Prelude.{decimal, codes, bytes_eq, nat_le, ◌==◌}
use Rattle.std.specs.List.{list_all}
use Rattle.std.proofs.lemmas.Bool.{and_parts, and_from}
use Rattle.std.proofs.lemmas.Bool.Decides.{nat_tests}
use Rattle.std.proofs.lemmas.List.{append-nil}
use Rattle.std.proofs.lemmas.Fmt.{length-decimal-le}
use Rattle.board_model.specs.FileWords.{is_digit, is_letter_byte, is_label_byte, is_label}
use Rattle.scenario_lang.proofs.Options.{cases_bool}
use Rattle.board_model.proofs.WordDecimals.{Begins, decimal-begins, decimal-digits}
use Rattle.scenario_lang.proofs.SpacedLemmas.{is_seen, is_word}

-- a word that is no sign, of at most so many bytes
pub record IsPlain (most : ℕ) (word : List ℕ) : Type 0 where
  pub is : is_word word ≡ true
  pub no_sign : bytes_eq word (codes "=") ≡ false
  pub few : length word ≤ most

seen_digit : (b : ℕ) → is_digit b ≡ true → is_seen b ≡ true
seen_digit b digit = grind (arith, nat_tests)

pub seen_label : (b : ℕ) → is_label_byte b ≡ true → is_seen b ≡ true
seen_label b labels = elim (cases_bool (is_letter_byte b)) [
  | inl letter ↦ grind (arith, nat_tests)
  | inr other ↦ elim (cases_bool (nat_le 48 b && nat_le b 57)) [
    | inl digit ↦ grind (arith, nat_tests)
    | inr neither ↦ let line : (b == 95) ≡ true = rw (other, neither) at labels in grind (arith, nat_tests)
  ]
]

pub all_seen : (p : ℕ → Bool) → ((b : ℕ) → p b ≡ true → is_seen b ≡ true) → (bs : List ℕ) → list_all p bs ≡ true → list_all is_seen bs ≡ true
all_seen p is [] all = refl
all_seen p is (b ∷ bs) all = let parts = and_parts (p b) (list_all p bs) all in and_from (is_seen b) (list_all is_seen bs) (is b parts.0) (all_seen p is bs parts.1)

pub first_no_sign : (b : ℕ) (bs : List ℕ) → (b == 61) ≡ false → bytes_eq (b ∷ bs) (codes "=") ≡ false
first_no_sign b bs other = rw other refl

-- ---- numbers

-- what begins with a number and is seen
pub begun_plain : (most : ℕ) (ds rest : List ℕ) → Begins ds → list_all is_seen (ds ++ rest) ≡ true → length (ds ++ rest) ≤ most → IsPlain most (ds ++ rest)
begun_plain most ds rest s seen few =
    let digit = s.digit in
    let other : (s.first == 61) ≡ false = grind (arith, nat_tests) in
    record {
      is = ap (λ (t : List ℕ). is_word (t ++ rest)) s.front ∙ sym (ap (λ (t : List ℕ). list_all is_seen (t ++ rest)) s.front) ∙ seen;
      no_sign = ap (λ (t : List ℕ). bytes_eq (t ++ rest) (codes "=")) s.front ∙ first_no_sign s.first (s.others ++ rest) other;
      few = few;
    }

pub decimal-seen : (n : ℕ) → n < 2 ^ 32 → list_all is_seen (decimal n) ≡ true
decimal-seen n small = all_seen is_digit seen_digit (decimal n) (decimal-digits n (omega arith))

pub decimal-few : (n : ℕ) → n < 2 ^ 32 → length (decimal n) ≤ 10
decimal-few n small = length-decimal-le 10 n (omega arith) (omega arith) (omega arith)

-- a number of 64 bits of so many digits at most
decimal_short : (most n : ℕ) → n < 2 ^ 64 → length (decimal n) ≤ most → IsPlain most (decimal n)
decimal_short most n small few =
    let whole = append-nil (decimal n) in
    let seen = all_seen is_digit seen_digit (decimal n) (decimal-digits n small) in
    let p = begun_plain most (decimal n) [] (decimal-begins n small) (ap (λ (t : List ℕ). list_all is_seen t) whole ∙ seen) (omega (arith, ap (λ (t : List ℕ). length t) whole, few)) in
    record {
      is = sym (ap (λ (t : List ℕ). is_word t) whole) ∙ p.is;
      no_sign = sym (ap (λ (t : List ℕ). bytes_eq t (codes "=")) whole) ∙ p.no_sign;
      few = few;
    }

pub decimal-plain : (n : ℕ) → n < 2 ^ 32 → IsPlain 10 (decimal n)
decimal-plain n small = decimal_short 10 n (omega (arith, small)) (decimal-few n small)

pub decimal_plain_64 : (n : ℕ) → n < 2 ^ 64 → IsPlain 20 (decimal n)
decimal_plain_64 n small = decimal_short 20 n small (length-decimal-le 20 n (omega arith) (omega arith) (omega (arith, small)))

-- ---- labels

pub label-plain : (l : List ℕ) → is_label l ≡ true → IsPlain 16 l
label-plain [] h = absurd cc
label-plain (b ∷ bs) h =
    let first = and_parts (is_letter_byte b && nat_le (length bs) 15) (list_all is_label_byte bs) h in
    let second = and_parts (is_letter_byte b) (nat_le (length bs) 15) first.0 in
    let letter = second.0 in
    let short = second.1 in
    let seen : is_seen b ≡ true = grind (arith, nat_tests) in
    let other : (b == 61) ≡ false = grind (arith, nat_tests) in
    let few : length bs ≤ 15 = grind (arith, nat_tests) in
    record {
      is = and_from (is_seen b) (list_all is_seen bs) seen (all_seen is_label_byte seen_label bs first.1);
      no_sign = first_no_sign b bs other;
      few = omega arith;
    }
