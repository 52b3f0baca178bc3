-- Bytes in hexadecimal as a word, which is read as those bytes.
use Rattle.std.proofs.Common.{◌≡◌, ℕ, ◌+◌, ◌-◌, ◌*◌, ◌/◌, ◌%◌, ◌<◌, ◌≤◌, true, false, List, [], ◌∷◌, Option, Some, refl, ap, ◌∙◌, arith, inl, inr}
use Rattle.std.specs.Prelude.{nat_le, nat_lt}
use Rattle.std.specs.List.{flat_map, AllByRecursion}
use Rattle.std.proofs.lemmas.Bool.{cases_lt}
use Rattle.mc_base.specs.Text.{hex_digit, hex_byte, hex_text}
use Rattle.board_model.specs.FileWords.{digit_value, byte_and, pairs_of, bytes_of}

low_digit : (d : ℕ) → d < 10 → digit_value (48 + d) ≡ Some d
low_digit d lt =
    let a : nat_le 48 (48 + d) ≡ true = grind arith in
    let b : nat_le (48 + d) 57 ≡ true = grind arith in
    let c : (48 + d) - 48 ≡ d = omega arith in
    rw (a, b, c) refl

high_digit : (d : ℕ) → 10 ≤ d → d < 16 → digit_value (87 + d) ≡ Some d
high_digit d le lt =
    let a : nat_le 48 (87 + d) ≡ true = grind arith in
    let b : nat_le (87 + d) 57 ≡ false = grind arith in
    let e : nat_le 97 (87 + d) ≡ true = grind arith in
    let f : nat_le (87 + d) 102 ≡ true = grind arith in
    let c : (87 + d) - 87 ≡ d = omega arith in
    rw (a, b, e, f, c) refl

pub digit_value-hex : (d : ℕ) → d < 16 → digit_value (hex_digit d) ≡ Some d
digit_value-hex d lt = elim (cases_lt d 10) [
  | inl low ↦ let test : nat_lt d 10 ≡ true = grind arith in rw test (low_digit d low)
  | inr high ↦ let test : nat_lt d 10 ≡ false = grind arith in rw test (high_digit d high lt)
]

pub pairs_of-hex : (bs : List ℕ) → AllByRecursion (λ b. b < 256) bs → pairs_of (flat_map hex_byte bs) ≡ Some bs
pairs_of-hex [] small = refl
pairs_of-hex (b ∷ bs) small =
    let below : b < 256 = small.0 in
    let whole : (b / 16) * 16 + b % 16 ≡ b = omega arith in
    ap (λ (o : Option (List ℕ)). byte_and (digit_value (hex_digit (b / 16))) (digit_value (hex_digit (b % 16))) o) (pairs_of-hex bs small.1)
    ∙ ap (λ (o : Option ℕ). byte_and o (digit_value (hex_digit (b % 16))) (Some bs)) (digit_value-hex (b / 16) (omega arith))
    ∙ ap (λ (o : Option ℕ). byte_and (Some (b / 16)) o (Some bs)) (digit_value-hex (b % 16) (omega arith))
    ∙ ap (λ (v : ℕ). Some (v ∷ bs)) whole

pub bytes_of-hex : (bs : List ℕ) → AllByRecursion (λ b. b < 256) bs → bytes_of (hex_text bs) ≡ Some bs
bytes_of-hex [] small = refl
bytes_of-hex (b ∷ bs) small = pairs_of-hex (b ∷ bs) small
