-- Bytes in hexadecimal of lower case are read as those bytes, and nothing else is.
use Rattle.std.proofs.Common.{◌≡◌, ℕ, ◌+◌, ◌-◌, ◌*◌, ◌/◌, ◌%◌, ◌<◌, ◌≤◌, Bool, true, false, ◌&&◌, cond, List, [], ◌∷◌, length, Option, Some, None, refl, sym, ap, ap₂, ◌∙◌, arith, inl, inr, eqb-true}
use Rattle.std.specs.Prelude.{nat_le, nat_lt, not, ◌==◌}
use Rattle.std.specs.List.{list_all, flat_map}
use Rattle.std.proofs.lemmas.Bool.{cases_lt, and_parts, and_from}
use Rattle.std.proofs.lemmas.Bool.Decides.{nat_tests}
use Rattle.mc_base.specs.Text.{hex_digit, hex_byte, hex_text}
use Rattle.board_model.specs.FileWords.{digit_value, byte_and, pairs_of, is_dash}
use Rattle.board_model.proofs.WordHex.{pairs_of-hex}
use Rattle.mc_journal.specs.EntryText.{AreBytes}
use Rattle.board_model.specs.Numerals.{is_other}
use Rattle.mc_journal.specs.Readers.{is_small, bytes_in}

-- ---- a digit

digit-is : (b v : ℕ) → is_small b ≡ true → digit_value b ≡ Some v → (v < 16) × (hex_digit v ≡ b)
digit-is b v small e = first (nat_le 48 b && nat_le b 57) refl e
  where
    third : (t : Bool) → (nat_le 65 b && nat_le b 70) ≡ t → not t ≡ true → cond t (Some (b - 55)) None ≡ Some v → (v < 16) × (hex_digit v ≡ b)
    third true is small e = absurd cc
    third false is small e = absurd cc

    second : (t : Bool) → (nat_le 97 b && nat_le b 102) ≡ t → cond t (Some (b - 87)) (cond (nat_le 65 b && nat_le b 70) (Some (b - 55)) None) ≡ Some v → (v < 16) × (hex_digit v ≡ b)
    second true is e =
        let same : b - 87 ≡ v = cc in
        let low : 97 ≤ b = grind (arith, nat_tests) in
        let high : b ≤ 102 = grind (arith, nat_tests) in
        let test : nat_lt v 10 ≡ false = grind (arith, nat_tests) in
        let back : 87 + v ≡ b = omega (arith, same, low) in
        (omega (arith, same, high), rw test back)
    second false is e = third (nat_le 65 b && nat_le b 70) refl small e

    first : (t : Bool) → (nat_le 48 b && nat_le b 57) ≡ t → cond t (Some (b - 48)) (cond (nat_le 97 b && nat_le b 102) (Some (b - 87)) (cond (nat_le 65 b && nat_le b 70) (Some (b - 55)) None)) ≡ Some v → (v < 16) × (hex_digit v ≡ b)
    first true is e =
        let same : b - 48 ≡ v = cc in
        let low : 48 ≤ b = grind (arith, nat_tests) in
        let high : b ≤ 57 = grind (arith, nat_tests) in
        let test : nat_lt v 10 ≡ true = grind (arith, nat_tests) in
        let back : 48 + v ≡ b = omega (arith, same, low) in
        (omega (arith, same, high), rw test back)
    first false is e = second (nat_le 97 b && nat_le b 102) refl e

-- a digit of lower case is no capital and no blank
abbrev IsDigitOfWord : ℕ → Type 0
IsDigitOfWord b = (is_small b ≡ true) × (is_other 32 b ≡ true)

below_ten : (d : ℕ) → d < 10 → IsDigitOfWord (48 + d)
below_ten d lt =
    let capital : nat_le 65 (48 + d) ≡ false = grind (arith, nat_tests) in
    let blank : (48 + d == 32) ≡ false = grind (arith, nat_tests) in
    (rw capital refl, ap not blank)

from_ten : (d : ℕ) → 10 ≤ d → d < 16 → IsDigitOfWord (87 + d)
from_ten d le lt =
    let low : nat_le 65 (87 + d) ≡ true = grind (arith, nat_tests) in
    let high : nat_le (87 + d) 70 ≡ false = grind (arith, nat_tests) in
    let blank : (87 + d == 32) ≡ false = grind (arith, nat_tests) in
    (rw (low, high) refl, ap not blank)

digit_of_word : (d : ℕ) → d < 16 → IsDigitOfWord (hex_digit d)
digit_of_word d lt = elim (cases_lt d 10) [
  | inl low ↦ let test : nat_lt d 10 ≡ true = grind arith in rw test (below_ten d low)
  | inr high ↦ let test : nat_lt d 10 ≡ false = grind arith in rw test (from_ten d high lt)
]

-- ---- pairs

pairs_parts : (h l : Option ℕ) (r : Option (List ℕ)) (bs : List ℕ) → byte_and h l r ≡ Some bs → (x y : ℕ) × (ys : List ℕ) × (h ≡ Some x) × (l ≡ Some y) × (r ≡ Some ys) × ((x * 16 + y) ∷ ys ≡ bs)
pairs_parts None l r bs e = absurd cc
pairs_parts (Some x) None r bs e = absurd cc
pairs_parts (Some x) (Some y) None bs e = absurd cc
pairs_parts (Some x) (Some y) (Some ys) bs e = (x, y, ys, refl, refl, refl, cc)

pub pairs-are : (ds bs : List ℕ) → list_all is_small ds ≡ true → pairs_of ds ≡ Some bs → flat_map hex_byte bs ≡ ds
pairs-are [] bs small e = let none : [] ≡ bs = cc in ap (flat_map hex_byte) (sym none)
pairs-are (a ∷ []) bs small e = absurd cc
pairs-are (a ∷ b ∷ ds) bs small e =
    let s = and_parts (is_small a) (list_all is_small (b ∷ ds)) small in
    let t = and_parts (is_small b) (list_all is_small ds) s.1 in
    let p = pairs_parts (digit_value a) (digit_value b) (pairs_of ds) bs e in
    let high = digit-is a p.0 s.0 p.3 in
    let low = digit-is b p.1 t.0 p.4 in
    let h : (p.0 * 16 + p.1) / 16 ≡ p.0 = omega (arith, low.0) in
    let l : (p.0 * 16 + p.1) % 16 ≡ p.1 = omega (arith, low.0) in
    ap (flat_map hex_byte) (sym p.6)
    ∙ ap₂ (λ (x : ℕ) (y : ℕ). hex_digit x ∷ hex_digit y ∷ flat_map hex_byte p.2) h l
    ∙ ap₂ (λ (x : ℕ) (y : ℕ). x ∷ y ∷ flat_map hex_byte p.2) high.1 low.1
    ∙ ap (λ (zs : List ℕ). a ∷ b ∷ zs) (pairs-are ds p.2 t.1 p.5)

pairs_all : (p : ℕ → Bool) → ((d : ℕ) → d < 16 → p (hex_digit d) ≡ true) → (bs : List ℕ) → AreBytes bs → list_all p (flat_map hex_byte bs) ≡ true
pairs_all p each [] small = refl
pairs_all p each (b ∷ bs) small =
    let below : b < 256 = small.0 in
    and_from (p (hex_digit (b / 16))) (p (hex_digit (b % 16)) && list_all p (flat_map hex_byte bs)) (each (b / 16) (omega arith))
    (and_from (p (hex_digit (b % 16))) (list_all p (flat_map hex_byte bs)) (each (b % 16) (omega arith)) (pairs_all p each bs small.1))

-- ---- words

dash_is : (w : List ℕ) → is_dash w ≡ true → w ≡ 45 ∷ []
dash_is [] e = absurd cc
dash_is (b ∷ []) e = ap (λ x. x ∷ []) (eqb-true b 45 e)
dash_is (b ∷ c ∷ cs) e = absurd cc

pairs_text : (d : ℕ) (ds bs : List ℕ) → flat_map hex_byte bs ≡ d ∷ ds → hex_text bs ≡ d ∷ ds
pairs_text d ds [] e = absurd cc
pairs_text d ds (b ∷ bs) e = e

some_bytes : (d : ℕ) (ds : List ℕ) → (length (d ∷ ds) == 0) ≡ false
some_bytes d ds = grind (arith, nat_tests)

-- past the empty word
of_some : (d : ℕ) (ds : List ℕ) → bytes_in (d ∷ ds) ≡ cond (is_dash (d ∷ ds)) (Some []) (cond (list_all is_small (d ∷ ds)) (pairs_of (d ∷ ds)) None)
of_some d ds = ap (λ t. cond (is_dash (d ∷ ds)) (Some []) (cond t None (cond (list_all is_small (d ∷ ds)) (pairs_of (d ∷ ds)) None))) (some_bytes d ds)

pub bytes-are : (w bs : List ℕ) → bytes_in w ≡ Some bs → hex_text bs ≡ w
bytes-are [] bs e = absurd cc
bytes-are (d ∷ ds) bs e = dash (is_dash (d ∷ ds)) refl (sym (of_some d ds) ∙ e)
  where
    small : (t : Bool) → list_all is_small (d ∷ ds) ≡ t → cond t (pairs_of (d ∷ ds)) None ≡ Some bs → hex_text bs ≡ d ∷ ds
    small true is e = pairs_text d ds bs (pairs-are (d ∷ ds) bs is e)
    small false is e = absurd cc

    dash : (t : Bool) → is_dash (d ∷ ds) ≡ t → cond t (Some []) (cond (list_all is_small (d ∷ ds)) (pairs_of (d ∷ ds)) None) ≡ Some bs → hex_text bs ≡ d ∷ ds
    dash true is e = let none : [] ≡ bs = cc in ap hex_text (sym none) ∙ sym (dash_is (d ∷ ds) is)
    dash false is e = small (list_all is_small (d ∷ ds)) refl e

pub bytes-read : (bs : List ℕ) → AreBytes bs → bytes_in (hex_text bs) ≡ Some bs
bytes-read [] bytes = refl
bytes-read (b ∷ bs) bytes =
    let small : list_all is_small (flat_map hex_byte (b ∷ bs)) ≡ true = pairs_all is_small (λ d lt. (digit_of_word d lt).0) (b ∷ bs) bytes in
    of_some (hex_digit (b / 16)) (hex_digit (b % 16) ∷ flat_map hex_byte bs)
    ∙ ap (λ t. cond t (pairs_of (flat_map hex_byte (b ∷ bs))) None) small
    ∙ pairs_of-hex (b ∷ bs) bytes

-- they are one word
pub bytes-alone : (bs : List ℕ) → AreBytes bs → list_all (is_other 32) (hex_text bs) ≡ true
bytes-alone [] bytes = refl
bytes-alone (b ∷ bs) bytes = pairs_all (is_other 32) (λ d lt. (digit_of_word d lt).1) (b ∷ bs) bytes
