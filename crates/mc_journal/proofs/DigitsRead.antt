-- Digits that are all of lower case and even spell bytes, and no others do.
use Rattle.std.proofs.Common.{◌≡◌, ℕ, ◌+◌, ◌-◌, ◌*◌, ◌%◌, ◌/◌, ◌≤◌, ◌<◌, Bool, true, false, ◌&&◌, cond, List, [], ◌∷◌, length, Option, Some, None, refl, sym, ap, ◌∙◌, arith, zero, suc, get_or, take, drop, slice_set}
use Rattle.std.specs.Prelude.{nat_le, nat_lt, not, ◌==◌}
use Rattle.std.specs.List.{list_all}
use Rattle.std.proofs.lemmas.List.Folds.{list_all_at}
use Rattle.std.proofs.lemmas.Bool.{and_parts}
use Rattle.std.proofs.lemmas.Bool.Decides.{nat_tests}
use Rattle.board_model.specs.FileWords.{digit_value, byte_and, pairs_of, is_dash}
use Rattle.board_model.proofs.WordDigits.{odd_pairs, after_bytes, decoded_more}
use Rattle.mc_journal.specs.Readers.{is_small, bytes_in}
use Rattle.mc_journal.specs.Spelled.{is_lower, bytes_or_none, spelled}

-- ---- a digit

small_lower : (b : ℕ) → is_lower b ≡ true → is_small b ≡ true
small_lower b e = grind (arith, nat_tests)

-- a small byte that is no lower digit has no value
no_value : (b : ℕ) → is_lower b ≡ false → is_small b ≡ true → digit_value b ≡ None
no_value b e s =
    let low : (nat_le 48 b && nat_le b 57) ≡ false = grind (arith, nat_tests) in
    let high : (nat_le 97 b && nat_le b 102) ≡ false = grind (arith, nat_tests) in
    let capital : (nat_le 65 b && nat_le b 70) ≡ false = grind (arith, nat_tests) in
    rw (low, high, capital) refl

value_of : (b : ℕ) → is_lower b ≡ true → (v : ℕ) × (digit_value b ≡ Some v)
value_of b e = first (nat_le 48 b && nat_le b 57) refl e
  where
    second : (t : Bool) → (nat_le 97 b && nat_le b 102) ≡ t → t ≡ true → (v : ℕ) × (cond t (Some (b - 87)) (cond (nat_le 65 b && nat_le b 70) (Some (b - 55)) None) ≡ Some v)
    second true is e = (b - 87, refl)
    second false is e = absurd cc

    first : (t : Bool) → (nat_le 48 b && nat_le b 57) ≡ t → cond t true (nat_le 97 b && nat_le b 102) ≡ true → (v : ℕ) × (cond t (Some (b - 48)) (cond (nat_le 97 b && nat_le b 102) (Some (b - 87)) (cond (nat_le 65 b && nat_le b 70) (Some (b - 55)) None)) ≡ Some v)
    first true is e = (b - 48, refl)
    first false is e = second (nat_le 97 b && nat_le b 102) refl e

-- ---- pairs

no_rest : (h l : Option ℕ) → byte_and h l None ≡ None
no_rest None l = refl
no_rest (Some x) None = refl
no_rest (Some x) (Some y) = refl

no_low : (h : Option ℕ) (r : Option (List ℕ)) → byte_and h None r ≡ None
no_low None r = refl
no_low (Some x) r = refl

within : (t : Bool) (h l : Option ℕ) (r : Option (List ℕ)) → cond t (byte_and h l r) None ≡ byte_and h l (cond t r None)
within true h l r = refl
within false h l r = sym (no_rest h l)

none_twice : (t : Bool) → ◌≡◌ {A = Option (List ℕ)} (cond t None None) None
none_twice true = refl
none_twice false = refl

-- bytes of small digits
abbrev small_pairs : List ℕ → Option (List ℕ)
small_pairs ds = cond (list_all is_small ds) (pairs_of ds) None

abbrev lower_pairs : List ℕ → Option (List ℕ)
lower_pairs ds = cond (list_all is_lower ds) (pairs_of ds) None

pub small_is_lower : (ds : List ℕ) → small_pairs ds ≡ lower_pairs ds
small_is_lower [] = refl
small_is_lower (a ∷ []) = none_twice (is_small a && true) ∙ sym (none_twice (is_lower a && true))
small_is_lower (a ∷ b ∷ ds) = of_first (small_is_lower ds) (is_lower a) refl (is_lower b) refl
  where
    both : small_pairs ds ≡ lower_pairs ds → is_lower a ≡ true → is_lower b ≡ true → small_pairs (a ∷ b ∷ ds) ≡ lower_pairs (a ∷ b ∷ ds)
    both fewer la lb =
        ap (λ t. cond (t && (is_small b && list_all is_small ds)) (pairs_of (a ∷ b ∷ ds)) None) (small_lower a la)
        ∙ ap (λ t. cond (t && list_all is_small ds) (pairs_of (a ∷ b ∷ ds)) None) (small_lower b lb)
        ∙ within (list_all is_small ds) (digit_value a) (digit_value b) (pairs_of ds)
        ∙ ap (byte_and (digit_value a) (digit_value b)) fewer
        ∙ sym (within (list_all is_lower ds) (digit_value a) (digit_value b) (pairs_of ds))
        ∙ sym (ap (λ t. cond (t && list_all is_lower ds) (pairs_of (a ∷ b ∷ ds)) None) lb)
        ∙ sym (ap (λ t. cond (t && (is_lower b && list_all is_lower ds)) (pairs_of (a ∷ b ∷ ds)) None) la)

    no_first : (s : Bool) → is_small a ≡ s → is_lower a ≡ false → cond (s && (is_small b && list_all is_small ds)) (pairs_of (a ∷ b ∷ ds)) None ≡ None
    no_first true is la = ap (λ v. cond (is_small b && list_all is_small ds) (byte_and v (digit_value b) (pairs_of ds)) None) (no_value a la is) ∙ none_twice (is_small b && list_all is_small ds)
    no_first false is la = refl

    no_second : (s t : Bool) → is_small b ≡ t → is_lower b ≡ false → cond (s && (t && list_all is_small ds)) (pairs_of (a ∷ b ∷ ds)) None ≡ None
    no_second s true is lb = ap (λ r. cond (s && list_all is_small ds) r None) (ap (λ v. byte_and (digit_value a) v (pairs_of ds)) (no_value b lb is) ∙ no_low (digit_value a) (pairs_of ds)) ∙ none_twice (s && list_all is_small ds)
    no_second true false is lb = refl
    no_second false false is lb = refl

    of_first : small_pairs ds ≡ lower_pairs ds → (t : Bool) → is_lower a ≡ t → (u : Bool) → is_lower b ≡ u → small_pairs (a ∷ b ∷ ds) ≡ lower_pairs (a ∷ b ∷ ds)
    of_first fewer true la true lb = both fewer la lb
    of_first fewer false la u lb = no_first (is_small a) refl la ∙ sym (ap (λ t. cond (t && (is_lower b && list_all is_lower ds)) (pairs_of (a ∷ b ∷ ds)) None) la)
    of_first fewer true la false lb = no_second (is_small a) (is_small b) refl lb ∙ sym (ap (λ t. cond (t && (false && list_all is_lower ds)) (pairs_of (a ∷ b ∷ ds)) None) la) ∙ sym (ap (λ u. cond (is_lower a && (u && list_all is_lower ds)) (pairs_of (a ∷ b ∷ ds)) None) lb)

-- an even count of lower digits spells half as many bytes
pub lower_spells : (n : ℕ) (ds : List ℕ) → length ds ≡ n * 2 → list_all is_lower ds ≡ true → (bs : List ℕ) × (pairs_of ds ≡ Some bs) × (length bs ≡ n)
lower_spells zero [] e lower = ([], refl, refl)
lower_spells zero (a ∷ ds) e lower = absurd (omega (arith, e))
lower_spells (suc n) [] e lower = absurd (omega (arith, e))
lower_spells (suc n) (a ∷ []) e lower = absurd (omega (arith, e))
lower_spells (suc n) (a ∷ b ∷ ds) e lower =
    let s = and_parts (is_lower a) (list_all is_lower (b ∷ ds)) lower in
    let t = and_parts (is_lower b) (list_all is_lower ds) s.1 in
    let h = value_of a s.0 in
    let l = value_of b t.0 in
    let rest = lower_spells n ds (omega (arith, e)) t.1 in
    ((h.0 * 16 + l.0) ∷ rest.0, ap (λ v. byte_and v (digit_value b) (pairs_of ds)) h.1 ∙ ap (λ v. byte_and (Some h.0) v (pairs_of ds)) l.1 ∙ ap (byte_and (Some h.0) (Some l.0)) rest.1, ap suc rest.2)

-- ---- a word

by_tests : (t u : Bool) (r : Option (List ℕ)) → t ≡ false → cond t (Some []) (cond u None r) ≡ cond u None r
by_tests t u r e = ap (λ x. cond x (Some []) (cond u None r)) e

no_word : (u : Bool) → ◌≡◌ {A = Option (List ℕ)} (cond u None None) None
no_word true = refl
no_word false = refl

pub odd_none : (w : List ℕ) → is_dash w ≡ false → length w % 2 ≡ 1 → bytes_in w ≡ None
odd_none w dash odd =
    by_tests (is_dash w) (length w == 0) (small_pairs w) dash
    ∙ ap (λ r. cond (length w == 0) None (cond (list_all is_small w) r None)) (odd_pairs w odd)
    ∙ ap (λ r. cond (length w == 0) None r) (none_twice (list_all is_small w))
    ∙ no_word (length w == 0)

pub other_none : (w : List ℕ) → is_dash w ≡ false → list_all is_lower w ≡ false → bytes_in w ≡ None
other_none w dash lower =
    by_tests (is_dash w) (length w == 0) (small_pairs w) dash
    ∙ ap (λ r. cond (length w == 0) None r) (small_is_lower w ∙ ap (λ t. cond t (pairs_of w) None) lower)
    ∙ no_word (length w == 0)

pub lower_some : (w : List ℕ) → is_dash w ≡ false → (length w == 0) ≡ false → length w % 2 ≡ 0 → list_all is_lower w ≡ true → Some (spelled w) ≡ bytes_in w
lower_some w dash full even lower =
    let n : length w ≡ (length w / 2) * 2 = omega (arith, even) in
    let bs = lower_spells (length w / 2) w n lower in
    ap (λ r. Some (bytes_or_none r)) bs.1
    ∙ sym (by_tests (is_dash w) (length w == 0) (small_pairs w) dash
    ∙ ap (λ t. cond t None (small_pairs w)) full
    ∙ small_is_lower w
    ∙ ap (λ t. cond t (pairs_of w) None) lower
    ∙ bs.1)

pub lower_count : (w : List ℕ) → length w % 2 ≡ 0 → list_all is_lower w ≡ true → length w ≡ 2 * length (spelled w)
lower_count w even lower =
    let n : length w ≡ (length w / 2) * 2 = omega (arith, even) in
    let bs = lower_spells (length w / 2) w n lower in
    let half : length (spelled w) ≡ length w / 2 = ap (λ r. length (bytes_or_none r)) bs.1 ∙ bs.2 in
    omega (arith, n, half)

-- ---- pairs, each read as one number

abbrev Lower : ℕ → Type 0
Lower b = (digit_value b ≡ Some (b % 16 + 9 * (b / 64 % 2))) × (b % 16 + 9 * (b / 64 % 2) < 16) × (b ≤ 102)

lower_is : (b : ℕ) → is_lower b ≡ true → Lower b
lower_is b e = first (nat_le 48 b && nat_le b 57) refl e
  where
    second : (t : Bool) → (nat_le 97 b && nat_le b 102) ≡ t → t ≡ true → (cond t (Some (b - 87)) (cond (nat_le 65 b && nat_le b 70) (Some (b - 55)) None) ≡ Some (b % 16 + 9 * (b / 64 % 2))) × (b % 16 + 9 * (b / 64 % 2) < 16) × (b ≤ 102)
    second true is e =
        let low : 97 ≤ b = grind (arith, nat_tests) in
        let high : b ≤ 102 = grind (arith, nat_tests) in
        let same : b - 87 ≡ b % 16 + 9 * (b / 64 % 2) = omega (arith, low, high) in
        (ap Some same, omega (arith, low, high), high)
    second false is e = absurd cc

    first : (t : Bool) → (nat_le 48 b && nat_le b 57) ≡ t → cond t true (nat_le 97 b && nat_le b 102) ≡ true → (cond t (Some (b - 48)) (cond (nat_le 97 b && nat_le b 102) (Some (b - 87)) (cond (nat_le 65 b && nat_le b 70) (Some (b - 55)) None)) ≡ Some (b % 16 + 9 * (b / 64 % 2))) × (b % 16 + 9 * (b / 64 % 2) < 16) × (b ≤ 102)
    first true is e =
        let low : 48 ≤ b = grind (arith, nat_tests) in
        let high : b ≤ 57 = grind (arith, nat_tests) in
        let same : b - 48 ≡ b % 16 + 9 * (b / 64 % 2) = omega (arith, low, high) in
        (ap Some same, omega (arith, low, high), omega (arith, high))
    first false is e = second (nat_le 97 b && nat_le b 102) refl e

lower_at : (word : List ℕ) (i : ℕ) → i < length word → list_all is_lower word ≡ true → (t : Bool) → is_lower (get_or word i 0) ≡ t → is_lower (get_or word i 0) ≡ true
lower_at word i within lower true e = e
lower_at word i within lower false e = let none : list_all is_lower word ≡ false = list_all_at is_lower word i 0 within e in absurd cc

-- the byte of a pair
pair_byte : (a b p : ℕ) → p ≡ a + 256 * b → a ≤ 102 → b ≤ 102 → a % 16 + 9 * (a / 64 % 2) < 16 → b % 16 + 9 * (b / 64 % 2) < 16 → ((p % 16 + 9 * (p / 64 % 2)) * 16 + (p / 256 % 16 + 9 * (p / 16384))) % 256 ≡ (a % 16 + 9 * (a / 64 % 2)) % 16 * 16 + (b % 16 + 9 * (b / 64 % 2)) % 16
pair_byte a b p e la lb va vb =
    let one : p % 16 ≡ a % 16 = omega (arith, e, la, lb) in
    let two : p / 64 % 2 ≡ a / 64 % 2 = omega (arith, e, la, lb) in
    let three : p / 256 % 16 ≡ b % 16 = omega (arith, e, la, lb) in
    let four : p / 16384 ≡ b / 64 % 2 = omega (arith, e, la, lb) in
    omega (arith, one, two, three, four, va, vb)

test_of : (v : ℕ) → v < 16 → nat_lt v 16 ≡ true
test_of v lt = grind arith

pub paired : (word out : List ℕ) (i byte : ℕ) → length word ≡ 2 * length out → i < length out → list_all is_lower word ≡ true → byte ≡ (((get_or word (2 * i) 0 + 256 * get_or word (2 * i + 1) 0) % 16 + 9 * ((get_or word (2 * i) 0 + 256 * get_or word (2 * i + 1) 0) / 64 % 2)) * 16 + ((get_or word (2 * i) 0 + 256 * get_or word (2 * i + 1) 0) / 256 % 16 + 9 * ((get_or word (2 * i) 0 + 256 * get_or word (2 * i + 1) 0) / 16384))) % 256 → after_bytes (take i out) (pairs_of (drop (2 * i) word)) ≡ pairs_of word → after_bytes (take (i + 1) (slice_set out i byte)) (pairs_of (drop (2 * (i + 1)) word)) ≡ pairs_of word
paired word out i byte size within lower is so_far =
    let a = get_or word (2 * i) 0 in
    let b = get_or word (2 * i + 1) 0 in
    let la = lower_is a (lower_at word (2 * i) (omega (arith, size, within)) lower (is_lower a) refl) in
    let lb = lower_is b (lower_at word (2 * i + 1) (omega (arith, size, within)) lower (is_lower b) refl) in
    let ta = test_of (a % 16 + 9 * (a / 64 % 2)) la.1 in
    let tb = test_of (b % 16 + 9 * (b / 64 % 2)) lb.1 in
    let both : (nat_lt (a % 16 + 9 * (a / 64 % 2)) 16 && nat_lt (b % 16 + 9 * (b / 64 % 2)) 16) ≡ true = ap (λ t. t && nat_lt (b % 16 + 9 * (b / 64 % 2)) 16) ta ∙ tb in
    ap (λ x. after_bytes (take (i + 1) (slice_set out i x)) (pairs_of (drop (2 * (i + 1)) word))) (is ∙ pair_byte a b (a + 256 * b) refl la.2 lb.2 la.1 lb.1)
    ∙ decoded_more word out i (a % 16 + 9 * (a / 64 % 2)) (b % 16 + 9 * (b / 64 % 2)) size within
    (la.0 ∙ sym (ap (λ t. cond t (Some (a % 16 + 9 * (a / 64 % 2))) None) ta))
    (lb.0 ∙ sym (ap (λ t. cond t (Some (b % 16 + 9 * (b / 64 % 2))) None) tb))
    so_far both
