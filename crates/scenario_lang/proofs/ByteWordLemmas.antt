-- Bytes in hexadecimal as a word of a canonical line, which is read as those bytes.
use Rattle.std.proofs.Common.{◌≡◌, ℕ, ◌+◌, ◌*◌, ◌/◌, ◌%◌, ◌<◌, ◌≤◌, true, false, ◌&&◌, List, [], ◌∷◌, length, Option, refl, ap, ◌∙◌, arith, inl, inr}
use Rattle.std.specs.Prelude.{nat_le, nat_lt, ◌==◌, unwrap_or}
use Rattle.std.specs.List.{list_all, flat_map, AllByRecursion}
use Rattle.std.proofs.lemmas.Bool.{and_from, le-leb, cases_lt}
use Rattle.std.proofs.lemmas.Bool.Decides.{nat_tests}
use Rattle.mc_base.specs.Limits.{asked_limit}
use Rattle.mc_base.specs.Text.{hex_digit, hex_byte, hex_text}
use Rattle.board_model.specs.FileWords.{content, are_within, are_bytes, bytes}
use Rattle.board_model.proofs.WordHex.{bytes_of-hex}
use Rattle.scenario_lang.proofs.SpacedLemmas.{is_seen}
use Rattle.scenario_lang.proofs.PlainLemmas.{IsPlain, first_no_sign}

low_digit : (d : ℕ) → d < 10 → (is_seen (48 + d) ≡ true) × ((48 + d == 61) ≡ false)
low_digit d lt = (grind (arith, nat_tests), grind (arith, nat_tests))

high_digit : (d : ℕ) → 10 ≤ d → d < 16 → (is_seen (87 + d) ≡ true) × ((87 + d == 61) ≡ false)
high_digit d le lt = (grind (arith, nat_tests), grind (arith, nat_tests))

abbrev IsHex : ℕ → Type 0
IsHex b = (is_seen b ≡ true) × ((b == 61) ≡ false)

hex_digit-is : (d : ℕ) → d < 16 → IsHex (hex_digit d)
hex_digit-is d lt = elim (cases_lt d 10) [
  | inl low ↦ let test : nat_lt d 10 ≡ true = grind arith in rw test (low_digit d low)
  | inr high ↦ let test : nat_lt d 10 ≡ false = grind arith in rw test (high_digit d high lt)
]

hex_seen : (bs : List ℕ) → AllByRecursion (λ b. b < 256) bs → list_all is_seen (flat_map hex_byte bs) ≡ true
hex_seen [] small = refl
hex_seen (b ∷ bs) small =
    let below : b < 256 = small.0 in
    let high = (hex_digit-is (b / 16) (omega arith)).0 in
    let low = (hex_digit-is (b % 16) (omega arith)).0 in
    and_from (is_seen (hex_digit (b / 16))) (is_seen (hex_digit (b % 16)) && list_all is_seen (flat_map hex_byte bs)) high (and_from (is_seen (hex_digit (b % 16))) (list_all is_seen (flat_map hex_byte bs)) low (hex_seen bs small.1))

hex_length : (bs : List ℕ) → length (flat_map hex_byte bs) ≡ 2 * length bs
hex_length [] = refl
hex_length (b ∷ bs) = omega (arith, hex_length bs)

-- two digits a byte, or one dash
pub hex-short : (bs : List ℕ) → length (hex_text bs) ≤ 2 * length bs + 1
hex-short [] = omega arith
hex-short (b ∷ bs) = omega (arith, hex_length (b ∷ bs))

pub are_bytes-within : (least most : ℕ) (bs : List ℕ) → AllByRecursion (λ b. b < 256) bs → least ≤ length bs → length bs ≤ most → are_bytes (content least most (hex_text bs)) ≡ true
are_bytes-within least most bs small some few =
    ap (are_within least most) (bytes_of-hex bs small) ∙ and_from (nat_le least (length bs)) (nat_le (length bs) most) (le-leb least (length bs) some) (le-leb (length bs) most few)

pub are_bytes-hex : (bs : List ℕ) → AllByRecursion (λ b. b < 256) bs → length bs ≤ asked_limit → are_bytes (content 0 asked_limit (hex_text bs)) ≡ true
are_bytes-hex bs small few = are_bytes-within 0 asked_limit bs small (omega arith) few

pub bytes-hex : (bs : List ℕ) → AllByRecursion (λ b. b < 256) bs → bytes (hex_text bs) ≡ bs
bytes-hex bs small = ap (λ (o : Option (List ℕ)). unwrap_or o []) (bytes_of-hex bs small)

pub hex-plain : (bs : List ℕ) → AllByRecursion (λ b. b < 256) bs → length bs ≤ 9000 → IsPlain 18000 (hex_text bs)
hex-plain [] small few = record { is = refl; no_sign = refl; few = omega arith }
hex-plain (b ∷ bs) small few =
    let below : b < 256 = small.0 in
    let rest : List ℕ = hex_digit (b % 16) ∷ flat_map hex_byte bs in
    record {
      is = hex_seen (b ∷ bs) small;
      no_sign = first_no_sign (hex_digit (b / 16)) rest (hex_digit-is (b / 16) (omega arith)).1;
      few = omega (arith, hex_length (b ∷ bs), few);
    }
