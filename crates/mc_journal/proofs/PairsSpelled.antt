-- Digits compared with bytes, pair by pair.
use Rattle.std.proofs.Common.{◌≡◌, ℕ, ◌+◌, ◌-◌, ◌*◌, ◌/◌, ◌%◌, ◌<◌, ◌≤◌, Bool, true, false, ◌&&◌, cond, List, [], ◌∷◌, length, get_or, drop, refl, sym, ap, ap₂, ◌∙◌, arith, zero, suc, bytes_eq}
use Rattle.std.specs.Prelude.{nat_lt, ◌==◌}
use Rattle.std.specs.List.{flat_map}
use Rattle.std.proofs.lemmas.Slice.Eq.{bytes_eq-Decides}
use Rattle.std.proofs.lemmas.Bool.Decides.{nat_tests}
use Rattle.mc_base.specs.Text.{hex_digit, hex_byte}
use Rattle.std.proofs.Math.Seq.{drop-cons}
use Rattle.mc_journal.specs.EntryText.{AreBytes}

abbrev pub pair_is : ℕ → ℕ → ℕ → Bool
pair_is a b x = a + 256 * b == hex_digit (x / 16) + 256 * hex_digit (x % 16)

-- whether each two digits are those of a byte
abbrev pub same_pairs : List ℕ → List ℕ → Bool
same_pairs (a ∷ b ∷ ds) (x ∷ xs) = pair_is a b x && same_pairs ds xs
same_pairs ds xs = true

small_digit : (d : ℕ) → d < 16 → hex_digit d < 256
small_digit d lt = go (nat_lt d 10) refl
  where
    go : (t : Bool) → nat_lt d 10 ≡ t → cond t (48 + d) (87 + d) < 256
    go true is = omega (arith, lt)
    go false is = omega (arith, lt)

apart : (a b h l : ℕ) → a < 256 → b < 256 → h < 256 → l < 256 → (a + 256 * b == h + 256 * l) ≡ ((a == h) && (b == l))
apart a b h l la lb lh ll = go (a == h) refl (b == l) refl
  where
    go : (t : Bool) → (a == h) ≡ t → (u : Bool) → (b == l) ≡ u → (a + 256 * b == h + 256 * l) ≡ (t && u)
    go true e true f = grind (arith, nat_tests)
    go true e false f = grind (arith, nat_tests)
    go false e u f = grind (arith, nat_tests)

and_three : (a b c : Bool) → ((a && b) && c) ≡ (a && (b && c))
and_three true b c = refl
and_three false b c = refl

pub pairs_eq : (ds xs : List ℕ) → length ds ≡ 2 * length xs → AreBytes ds → AreBytes xs → bytes_eq ds (flat_map hex_byte xs) ≡ same_pairs ds xs
pairs_eq [] [] e sd sx = refl
pairs_eq [] (x ∷ xs) e sd sx = absurd (omega (arith, e))
pairs_eq (a ∷ ds) [] e sd sx = absurd (omega (arith, e))
pairs_eq (a ∷ []) (x ∷ xs) e sd sx = absurd (omega (arith, e))
pairs_eq (a ∷ b ∷ ds) (x ∷ xs) e sd sx =
    let h = small_digit (x / 16) (omega (arith, sx.0)) in
    let l = small_digit (x % 16) (omega arith) in
    ap (λ r. (a == hex_digit (x / 16)) && ((b == hex_digit (x % 16)) && r)) (pairs_eq ds xs (omega (arith, e)) sd.1.1 sx.1)
    ∙ sym (and_three (a == hex_digit (x / 16)) (b == hex_digit (x % 16)) (same_pairs ds xs))
    ∙ ap (λ t. t && same_pairs ds xs) (sym (apart a b (hex_digit (x / 16)) (hex_digit (x % 16)) sd.0 sd.1.0 h l))

pub next_pair : (ds xs : List ℕ) (i : ℕ) → length ds ≡ 2 * length xs → i < length xs → same_pairs (drop (2 * i) ds) (drop i xs) ≡ (pair_is (get_or ds (2 * i) 0) (get_or ds (2 * i + 1) 0) (get_or xs i 0) && same_pairs (drop (2 * (i + 1)) ds) (drop (i + 1) xs))
next_pair ds xs i e lt =
    let left : drop (2 * i) ds ≡ get_or ds (2 * i) 0 ∷ drop (suc (2 * i)) ds = drop-cons ds (2 * i) 0 (omega (arith, e, lt)) in
    let step : suc (2 * i) ≡ 2 * i + 1 = omega arith in
    let more : drop (suc (2 * i)) ds ≡ get_or ds (2 * i + 1) 0 ∷ drop (suc (2 * i + 1)) ds = ap (λ (k : ℕ). drop k ds) step ∙ drop-cons ds (2 * i + 1) 0 (omega (arith, e, lt)) in
    let after : suc i ≡ i + 1 = omega arith in
    let byte : drop i xs ≡ get_or xs i 0 ∷ drop (i + 1) xs = drop-cons xs i 0 lt ∙ ap (λ (k : ℕ). get_or xs i 0 ∷ drop k xs) after in
    let place : suc (2 * i + 1) ≡ 2 * (i + 1) = omega arith in
    ap₂ (λ (y : List ℕ) (z : List ℕ). same_pairs y z) (left ∙ ap (λ (r : List ℕ). get_or ds (2 * i) 0 ∷ r) (more ∙ ap (λ (k : ℕ). get_or ds (2 * i + 1) 0 ∷ drop k ds) place)) byte

length_pairs : (xs : List ℕ) → length (flat_map hex_byte xs) ≡ 2 * length xs
length_pairs [] = refl
length_pairs (x ∷ xs) = omega (arith, length_pairs xs)

pub other_length : (ds xs : List ℕ) → (length ds ≡ 2 * length xs → 1 ≤ zero) → bytes_eq ds (flat_map hex_byte xs) ≡ false
other_length ds xs apart_by = go (bytes_eq ds (flat_map hex_byte xs)) refl
  where
    go : (t : Bool) → bytes_eq ds (flat_map hex_byte xs) ≡ t → bytes_eq ds (flat_map hex_byte xs) ≡ false
    go true e = let bad : 1 ≤ zero = apart_by (ap (λ l. length l) ((bytes_eq-Decides ds (flat_map hex_byte xs)).0 e) ∙ length_pairs xs) in absurd (omega (arith, bad))
    go false e = e

none_left : (ds : List ℕ) → same_pairs ds [] ≡ true
none_left [] = refl
none_left (a ∷ []) = refl
none_left (a ∷ b ∷ ds) = refl

nothing_past : (xs : List ℕ) (i : ℕ) → length xs ≤ i → drop i xs ≡ []
nothing_past [] zero le = refl
nothing_past [] (suc i) le = refl
nothing_past (x ∷ xs) zero le = absurd (omega (arith, le))
nothing_past (x ∷ xs) (suc i) le = nothing_past xs i (omega (arith, le))

and_true : (a : Bool) → (a && true) ≡ a
and_true true = refl
and_true false = refl

pub at_end : (ds xs : List ℕ) (i : ℕ) (all : Bool) → length xs ≤ i → (all && same_pairs (drop (2 * i) ds) (drop i xs)) ≡ same_pairs ds xs → all ≡ same_pairs ds xs
at_end ds xs i all le e = sym (and_true all) ∙ ap (λ t. all && t) (sym (ap (same_pairs (drop (2 * i) ds)) (nothing_past xs i le) ∙ none_left (drop (2 * i) ds))) ∙ e

pub one_more : (ds xs : List ℕ) (i : ℕ) (all : Bool) (due : ℕ) → length ds ≡ 2 * length xs → i < length xs → due ≡ hex_digit (get_or xs i 0 / 16) + 256 * hex_digit (get_or xs i 0 % 16) → (all && same_pairs (drop (2 * i) ds) (drop i xs)) ≡ same_pairs ds xs → ((all && (get_or ds (2 * i) 0 + 256 * get_or ds (2 * i + 1) 0 == due)) && same_pairs (drop (2 * (i + 1)) ds) (drop (i + 1) xs)) ≡ same_pairs ds xs
one_more ds xs i all due size lt is e =
    ap (λ r. (all && (get_or ds (2 * i) 0 + 256 * get_or ds (2 * i + 1) 0 == r)) && same_pairs (drop (2 * (i + 1)) ds) (drop (i + 1) xs)) is
    ∙ and_three all (pair_is (get_or ds (2 * i) 0) (get_or ds (2 * i + 1) 0) (get_or xs i 0)) (same_pairs (drop (2 * (i + 1)) ds) (drop (i + 1) xs))
    ∙ ap (λ t. all && t) (sym (next_pair ds xs i size lt))
    ∙ e

pub bytes_small : (xs : List ℕ) → ((i : ℕ) → get_or xs i 0 < 256) → AreBytes xs
bytes_small [] each = tt
bytes_small (x ∷ xs) each = (each 0, bytes_small xs (λ i. each (suc i)))
