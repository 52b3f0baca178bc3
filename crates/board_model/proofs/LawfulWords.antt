-- Words of a scenario file that pass as numbers and as bytes.
use Rattle.std.proofs.Common.{◌≡◌, ℕ, ◌+◌, ◌-◌, ◌≤◌, ◌<◌, true, ◌&&◌, cond, List, [], ◌∷◌, length, Option, Some, None, arith}
use Rattle.std.specs.Prelude.{unwrap_or, nat_le}
use Rattle.std.specs.List.{AllByRecursion}
use Rattle.std.proofs.lemmas.Bool.{and_parts, cond_both, leb-true}
use Rattle.board_model.specs.FileWords.{is_within, numeral, is_admitted, is_number, number_of, number, digit_value, byte_and, pairs_of, is_dash, bytes_of, content, are_within, are_bytes, bytes}

-- ---- numbers

within_fits : (least most : ℕ) (o : Option ℕ) → is_admitted (is_within least most) o ≡ true → (least ≤ unwrap_or o 0) × (unwrap_or o 0 ≤ most)
within_fits least most None e = absurd cc
within_fits least most (Some n) e = let parts = and_parts (nat_le least n) (nat_le n most) e in (leb-true least n parts.0, leb-true n most parts.1)

pub number_fits : (least most : ℕ) (word : List ℕ) → is_number (numeral least most word) ≡ true → (least ≤ number word) × (number word ≤ most)
number_fits least most word e = within_fits least most (number_of word) e

-- ---- bytes

abbrev IsDigit : Option ℕ → Type 0
IsDigit None = Unit {0}
IsDigit (Some d) = d ≤ 15

-- a digit between two is one of 16
digit_between : (least most from b : ℕ) → most ≤ from + 15 → (nat_le least b && nat_le b most) ≡ true → IsDigit (Some (b - from))
digit_between least most from b near e = let parts = and_parts (nat_le least b) (nat_le b most) e in let below = leb-true b most parts.1 in omega arith

digit_small : (b : ℕ) → IsDigit (digit_value b)
digit_small b =
    cond_both (nat_le 48 b && nat_le b 57) (Some (b - 48)) (cond (nat_le 97 b && nat_le b 102) (Some (b - 87)) (cond (nat_le 65 b && nat_le b 70) (Some (b - 55)) None)) IsDigit (λ e. digit_between 48 57 48 b (omega arith) e)
    (λ f. cond_both (nat_le 97 b && nat_le b 102) (Some (b - 87)) (cond (nat_le 65 b && nat_le b 70) (Some (b - 55)) None) IsDigit (λ e. digit_between 97 102 87 b (omega arith) e)
    (λ g. cond_both (nat_le 65 b && nat_le b 70) (Some (b - 55)) None IsDigit (λ e. digit_between 65 70 55 b (omega arith) e) (λ h. tt)))

abbrev AreBytes : Option (List ℕ) → Type 0
AreBytes None = Unit {0}
AreBytes (Some bs) = AllByRecursion (λ b. b < 256) bs

byte_below : (high low : Option ℕ) (bs : Option (List ℕ)) → IsDigit high → IsDigit low → AreBytes bs → AreBytes (byte_and high low bs)
byte_below (Some high) (Some low) (Some bs) h l all = (omega (arith, h, l), all)
byte_below (Some high) (Some low) None h l all = tt
byte_below (Some high) None bs h l all = tt
byte_below None low bs h l all = tt

pairs_below : (word : List ℕ) → AreBytes (pairs_of word)
pairs_below [] = tt
pairs_below (a ∷ []) = tt
pairs_below (a ∷ b ∷ ds) = byte_below (digit_value a) (digit_value b) (pairs_of ds) (digit_small a) (digit_small b) (pairs_below ds)

or_none : (o : Option (List ℕ)) → AreBytes o → AllByRecursion (λ b. b < 256) (unwrap_or o [])
or_none None all = tt
or_none (Some bs) all = all

pub bytes_below : (word : List ℕ) → AllByRecursion (λ b. b < 256) (bytes word)
bytes_below word = or_none (bytes_of word) (cond_both (is_dash word) (Some []) (pairs_of word) AreBytes (λ e. tt) (λ e. pairs_below word))

few_fits : (least most : ℕ) (o : Option (List ℕ)) → are_within least most o ≡ true → (least ≤ length (unwrap_or o [])) × (length (unwrap_or o []) ≤ most)
few_fits least most None e = absurd cc
few_fits least most (Some bs) e = let parts = and_parts (nat_le least (length bs)) (nat_le (length bs) most) e in (leb-true least (length bs) parts.0, leb-true (length bs) most parts.1)

pub bytes_few : (least most : ℕ) (word : List ℕ) → are_bytes (content least most word) ≡ true → (least ≤ length (bytes word)) × (length (bytes word) ≤ most)
bytes_few least most word e = few_fits least most (bytes_of word) e
