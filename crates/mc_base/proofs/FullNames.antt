-- Full names: their digits, where their colons stand, and what is read of them.
use Rattle.std.proofs.Common.{◌≡◌, ◌≢◌, ◌∙◌, ℕ, zero, suc, ◌+◌, ◌-◌, ◌*◌, ◌^◌, ◌<◌, ◌≤◌, Bool, true, false, List, [], ◌∷◌, ◌++◌, length, take, get_or, Option, Some, None, refl, sym, ap, arith, lit<, inl, inr, ◌⊎◌}
use Rattle.std.specs.Prelude.{◌==◌, ◌&&◌, ◌||◌, nat_lt, codes, decimal, IfSome, IfNone, if◌then◌else◌}
use Rattle.std.specs.List.{list_any, slice_split}
use Rattle.std.specs.Char.{is_ascii_digit, digit_value}
use Rattle.std.specs.Str.{bytes_eq}
use Rattle.std.specs.Str.Parse.{AllDigits, IsNumeral, digits_value}
use Rattle.std.proofs.lemmas.Bool.Decides.{nat_tests}
use Rattle.std.proofs.lemmas.Fmt.{decimal_is_IsNumeral, decimal-digits_value, decimal_nonempty, first_decimal, decimal_digit}
use Rattle.std.proofs.lemmas.Int.Digits.{digits_value_more, digits_more}
use Rattle.std.proofs.lemmas.Slice.Eq.{bytes_eq-Decides}
use Rattle.std.proofs.lemmas.Str.Parse.{digit_from_value, digit_at, numerals_by_value, tells_digits, digits_value-take-le}
use Rattle.mc_base.specs.declared.name.EndName.{EndName}
use Rattle.mc_base.specs.FullName.{colon, is_colon, full_name, is_in_range, numbered, where_full, endpoint_named}

-- ---- digits

-- a byte that is a digit, and its value
pub record IsDigit (c : ℕ) : Type 0 where
  pub low : 48 ≤ c
  pub high : c ≤ 57
  pub valued : digit_value c ≡ c - 48

digit_of : (c : ℕ) → 48 ≤ c → c ≤ 57 → IsDigit c
digit_of c low high = record { low = low; high = high; valued = grind (arith, nat_tests) }

pub digit-tested : (c : ℕ) → is_ascii_digit c ≡ true → IsDigit c
digit-tested c h = let low : 48 ≤ c = grind (arith, nat_tests) in let high : c ≤ 57 = grind (arith, nat_tests) in digit_of c low high

-- a byte that is no digit is none of all digits
pub no_digit : (ds : List ℕ) (i : ℕ) → i < length ds → is_ascii_digit (get_or ds i 0) ≡ false → AllDigits 10 ds → ⊥
no_digit ds i lt h all =
    let d = digit_at ds i all lt in
    let low : 48 ≤ get_or ds i 0 = d.0 in
    let high : get_or ds i 0 ≤ 57 = d.1 in
    grind (arith, nat_tests)

-- one digit more
pub record OneMore (ds : List ℕ) (i value : ℕ) : Type 0 where
  pub all : AllDigits 10 (take (i + 1) ds)
  pub valued : value * 10 + (get_or ds i 0 - 48) ≡ digits_value 10 (take (i + 1) ds)

pub one_more : (ds : List ℕ) (i value : ℕ) → i < length ds → is_ascii_digit (get_or ds i 0) ≡ true → AllDigits 10 (take i ds) → value ≡ digits_value 10 (take i ds) → OneMore ds i value
one_more ds i value lt h all same =
    let d = digit-tested (get_or ds i 0) h in
    record {
      all = digits_more 10 ds i lt all (omega (arith, d.low, d.high, d.valued));
      valued = rw (same, ← d.valued) (sym (digits_value_more 10 ds i lt));
    }

-- a number that is too large already stays so
pub too_large : (ds : List ℕ) (i value most : ℕ) → OneMore ds i value → most < value * 10 + (get_or ds i 0 - 48) → most < digits_value 10 ds
too_large ds i value most m lt = omega (arith, lt, m.valued, digits_value-take-le 10 ds (i + 1) (lit< tt))

-- digits without a leading zero are the decimal text of their value
pub decimal-digits : (ds : List ℕ) (n : ℕ) → AllDigits 10 ds → 0 < length ds → (get_or ds 0 0 ≡ 48 → length ds ≡ 1) → n ≡ digits_value 10 ds → n < 2 ^ 64 → ds ≡ decimal n
decimal-digits ds n all some lead same small =
    let least : digits_value 10 ds < 2 ^ 64 = omega (arith, small, same) in
    sym (decimal-digits_value (numerals_by_value (AllDigits 10) tells_digits) ds all some lead least) ∙ ap decimal (sym same)

-- a decimal text has digits alone, and its value is the number
pub decimal-all : (ds : List ℕ) (n : ℕ) → n < 2 ^ 64 → ds ≡ decimal n → AllDigits 10 ds
decimal-all ds n small same = rw same (decimal_is_IsNumeral n small).0.1

pub decimal-value : (ds : List ℕ) (n : ℕ) → n < 2 ^ 64 → ds ≡ decimal n → digits_value 10 ds ≡ n
decimal-value ds n small same = ap (digits_value 10) same ∙ (decimal_is_IsNumeral n small).1

-- it is not empty, and begins with 0 only where it is 0
pub decimal-some : (ds : List ℕ) (n : ℕ) → n < 2 ^ 64 → ds ≡ decimal n → 0 < length ds
decimal-some ds n small same = let some : 0 < length (decimal n) = decimal_nonempty n small in omega (arith, some, ap (λ (xs : List ℕ). length xs) same)

pub decimal-leads : (ds : List ℕ) (n : ℕ) → n < 2 ^ 64 → ds ≡ decimal n → get_or ds 0 0 ≡ 48 → length ds ≡ 1
decimal-leads ds zero small same lead = ap (λ (xs : List ℕ). length xs) (same ∙ decimal_digit 0 (lit< tt))
decimal-leads ds (suc n) small same lead =
    let above : 48 < get_or (decimal (suc n)) 0 0 = first_decimal (suc n) (omega arith) small in
    absurd (omega (arith, above, lead, ap (λ (xs : List ℕ). get_or xs 0 0) same))

-- the value of digits without a leading zero is the number that they write
pub not_leading : (ds : List ℕ) → (nat_lt 1 (length ds) && get_or ds 0 0 == 48) ≡ false → 0 < length ds → get_or ds 0 0 ≡ 48 → length ds ≡ 1
not_leading ds h some lead = grind (arith, nat_tests)

pub value-read : (ds : List ℕ) (most : ℕ) (r : Option ℕ) → most < 65536 → (nat_lt 1 (length ds) && get_or ds 0 0 == 48) ≡ false → IfSome r (λ n. IsNumeral 10 ds × (n ≡ digits_value 10 ds) × (n ≤ most)) → IfSome r (λ n. (ds ≡ decimal n) × (n ≤ most))
value-read ds most None fits lead h = tt
value-read ds most (Some n) fits lead h = (decimal-digits ds n h.0.1 h.0.0 (not_leading ds lead h.0.0) h.1 (omega (arith, fits, h.2)), h.2)

pub value-refused : (ds : List ℕ) (most : ℕ) (r : Option ℕ) → most < 65536 → IfNone r (IsNumeral 10 ds → most < digits_value 10 ds) → IfNone r ((n : ℕ) → n ≤ most → ds ≢ decimal n)
value-refused ds most None fits h = λ n le same. omega (arith, le, h (decimal-some ds n (omega arith) same, decimal-all ds n (omega arith) same), decimal-value ds n (omega arith) same)
value-refused ds most (Some n) fits h = tt

pub zero-refused : (ds : List ℕ) (n : ℕ) → n < 2 ^ 64 → (nat_lt 1 (length ds) && get_or ds 0 0 == 48) ≡ true → ds ≢ decimal n
zero-refused ds n small h same =
    let more : 1 < length ds = grind (arith, nat_tests) in
    let lead : get_or ds 0 0 ≡ 48 = grind (arith, nat_tests) in
    omega (arith, more, decimal-leads ds n small same lead)

-- ---- colons

none_of_two : (p : ℕ) (xs : List ℕ) → is_colon p ≡ false → list_any is_colon xs ≡ false → list_any is_colon (p ∷ xs) ≡ false
none_of_two p xs h k = rw (h, k) refl

digits-no_colon : (ds : List ℕ) → AllDigits 10 ds → list_any is_colon ds ≡ false
digits-no_colon [] all = refl
digits-no_colon (c ∷ cs) all =
    let r = digit_from_value c all.0 in
    let high : c ≤ 57 = r.1 in
    let other : is_colon c ≡ false = grind (arith, nat_tests) in
    none_of_two c cs other (digits-no_colon cs all.1)

pub decimal-no_colon : (n : ℕ) → n < 2 ^ 64 → list_any is_colon (decimal n) ≡ false
decimal-no_colon n small = digits-no_colon (decimal n) (decimal_is_IsNumeral n small).0.1

-- what stands in front of the first colon, and behind it, is determined
neither : (a b : Bool) → (a || b) ≡ false → b ≡ false
neither true b h = absurd cc
neither false b h = h

pub same_front : (xs ys vs ws : List ℕ) → list_any is_colon xs ≡ false → list_any is_colon ys ≡ false → xs ++ (colon ∷ vs) ≡ ys ++ (colon ∷ ws) → (xs ≡ ys) × (vs ≡ ws)
same_front [] [] vs ws n m h = (refl, cc)
same_front [] (y ∷ ys) vs ws n m h = absurd cc
same_front (x ∷ xs) [] vs ws n m h = absurd cc
same_front (x ∷ xs) (y ∷ ys) vs ws n m h =
    let e : x ≡ y = cc in
    let tail : xs ++ (colon ∷ vs) ≡ ys ++ (colon ∷ ws) = cc in
    let r = same_front xs ys vs ws (neither (is_colon x) (list_any is_colon xs) n) (neither (is_colon y) (list_any is_colon ys) m) tail in
    (rw (e, r.0) refl, r.1)

-- so there is a colon
pub has_colon : (xs vs : List ℕ) → list_any is_colon (xs ++ (colon ∷ vs)) ≡ false → ⊥
has_colon [] vs h = absurd cc
has_colon (x ∷ xs) vs h = has_colon xs vs (neither (is_colon x) (list_any is_colon (xs ++ (colon ∷ vs))) h)

-- behind `mcapi:` it is so too
pub record PartsAre (front rest d after : List ℕ) : Type 0 where
  pub first : front ≡ d
  pub others : rest ≡ after

behind_prefix : (xs ys : List ℕ) → codes "mcapi:" ++ xs ≡ codes "mcapi:" ++ ys → xs ≡ ys
behind_prefix xs ys h = cc

pub parts_are : (name numbers front rest d after : List ℕ) → name ≡ codes "mcapi:" ++ numbers → numbers ≡ front ++ (colon ∷ rest) → list_any is_colon front ≡ false → list_any is_colon d ≡ false → name ≡ codes "mcapi:" ++ (d ++ (colon ∷ after)) → PartsAre front rest d after
parts_are name numbers front rest d after stripped made none none_d same =
    let r = same_front front d rest after none none_d (sym made ∙ behind_prefix numbers (d ++ (colon ∷ after)) (sym stripped ∙ same)) in
    record { first = r.0; others = r.1 }

-- ---- parts between colons

onto : (x : ℕ) (xs ys : List ℕ) (parts : List (List ℕ)) → is_colon x ≡ false → slice_split is_colon ys ≡ xs ∷ parts → slice_split is_colon (x ∷ ys) ≡ (x ∷ xs) ∷ parts
onto x xs ys parts other h = rw (other, h) refl

neither_first : (a b : Bool) → (a || b) ≡ false → a ≡ false
neither_first true b h = absurd cc
neither_first false b h = refl

pub split_at_colon : (xs rest : List ℕ) → list_any is_colon xs ≡ false → slice_split is_colon (xs ++ (colon ∷ rest)) ≡ xs ∷ slice_split is_colon rest
split_at_colon [] rest none = refl
split_at_colon (x ∷ xs) rest none = onto x xs (xs ++ (colon ∷ rest)) (slice_split is_colon rest) (neither_first (is_colon x) (list_any is_colon xs) none) (split_at_colon xs rest (neither (is_colon x) (list_any is_colon xs) none))

pub split_last : (xs : List ℕ) → list_any is_colon xs ≡ false → slice_split is_colon xs ≡ xs ∷ []
split_last [] none = refl
split_last (x ∷ xs) none = onto x xs xs [] (neither_first (is_colon x) (list_any is_colon xs) none) (split_last xs (neither (is_colon x) (list_any is_colon xs) none))

-- ---- what is read

-- the numbers of an endpoint in range are small
pub record IsSmall (n : EndName) : Type 0 where
  pub domain : n.domain ≤ 255
  pub node : n.node ≤ 15
  pub port : n.port ≤ 65535

pub in_range-small : (n : EndName) → is_in_range n ≡ true → IsSmall n
in_range-small n h = record { domain = grind (arith, nat_tests); node = grind (arith, nat_tests); port = grind (arith, nat_tests) }

pub small-in_range : (n : EndName) → IsSmall n → is_in_range n ≡ true
small-in_range n s = let d = s.domain in let e = s.node in let f = s.port in grind (arith, nat_tests)

full_parts : (n : EndName) → IsSmall n → slice_split is_colon (full_name n) ≡ codes "mcapi" ∷ decimal n.domain ∷ decimal n.node ∷ decimal n.port ∷ []
full_parts n s =
    let behind : slice_split is_colon (decimal n.node ++ (colon ∷ decimal n.port)) ≡ decimal n.node ∷ decimal n.port ∷ [] =
    split_at_colon (decimal n.node) (decimal n.port) (decimal-no_colon n.node (omega (arith, s.node)))
    ∙ ap (λ (parts : List (List ℕ)). decimal n.node ∷ parts) (split_last (decimal n.port) (decimal-no_colon n.port (omega (arith, s.port)))) in
    split_at_colon (codes "mcapi") (decimal n.domain ++ (colon ∷ (decimal n.node ++ (colon ∷ decimal n.port)))) refl
    ∙ ap (λ (parts : List (List ℕ)). codes "mcapi" ∷ parts)
    (split_at_colon (decimal n.domain) (decimal n.node ++ (colon ∷ decimal n.port)) (decimal-no_colon n.domain (omega (arith, s.domain)))
    ∙ ap (λ (parts : List (List ℕ)). decimal n.domain ∷ parts) behind)

full_numbered : (n : EndName) → IsSmall n → numbered (slice_split is_colon (full_name n)) ≡ Some n
full_numbered n s =
    ap numbered (full_parts n s)
    ∙ rw (decimal-value (decimal n.domain) n.domain (omega (arith, s.domain)) refl, decimal-value (decimal n.node) n.node (omega (arith, s.node)) refl, decimal-value (decimal n.port) n.port (omega (arith, s.port)) refl) refl

where_itself : (n : EndName) → is_in_range n ≡ true → where_full (full_name n) (Some n) ≡ Some n
where_itself n h = let same : bytes_eq (full_name n) (full_name n) ≡ true = (bytes_eq-Decides (full_name n) (full_name n)).1 refl in rw (h, same) refl

-- a full name is read back
pub read_back : (n : EndName) → is_in_range n ≡ true → endpoint_named (full_name n) ≡ Some n
read_back n h = ap (where_full (full_name n)) (full_numbered n (in_range-small n h)) ∙ where_itself n h

-- and nothing else is read
pub record IsFullName (name : List ℕ) (n : EndName) : Type 0 where
  pub same : name ≡ full_name n
  pub in_range : is_in_range n ≡ true

passed : (a b : Bool) (n m : EndName) → (if a && b then Some n else None) ≡ Some m → (a ≡ true) × (b ≡ true) × (n ≡ m)
passed true true n m h = (refl, refl, cc)
passed true false n m h = absurd cc
passed false b n m h = absurd cc

where_full-is : (name : List ℕ) (o : Option EndName) (n : EndName) → where_full name o ≡ Some n → IsFullName name n
where_full-is name None n h = absurd cc
where_full-is name (Some m) n h =
    let p = passed (is_in_range m) (bytes_eq (full_name m) name) m n h in
    let full : full_name m ≡ name = (bytes_eq-Decides (full_name m) name).0 p.1 in
    record { same = sym full ∙ ap full_name p.2; in_range = ap is_in_range (sym p.2) ∙ p.0 }

pub named-full : (name : List ℕ) (n : EndName) → endpoint_named name ≡ Some n → IsFullName name n
named-full name n h = where_full-is name (numbered (slice_split is_colon name)) n h

-- so none is read of what is no full name
cases_option : (o : Option EndName) → (o ≡ None) ⊎ ((n : EndName) × (o ≡ Some n))
cases_option None = inl refl
cases_option (Some n) = inr (n, refl)

pub none_named : (name : List ℕ) → ((n : EndName) → IsFullName name n → ⊥) → endpoint_named name ≡ None
none_named name other = elim (cases_option (endpoint_named name)) [
  | inl none ↦ none
  | inr read ↦ absurd (other read.0 (named-full name read.0 read.1))
]

-- the parts of a full name are its numbers
pub full-parts : (name : List ℕ) (P : List ℕ → List ℕ → List ℕ → Type 0) → ((d n p : List ℕ) → list_any is_colon d ≡ false → list_any is_colon n ≡ false → name ≡ codes "mcapi:" ++ (d ++ (colon ∷ (n ++ (colon ∷ p)))) → P d n p) → (n : EndName) → IsFullName name n → P (decimal n.domain) (decimal n.node) (decimal n.port)
full-parts name P only n f =
    let s = in_range-small n f.in_range in
    only (decimal n.domain) (decimal n.node) (decimal n.port) (decimal-no_colon n.domain (omega (arith, s.domain))) (decimal-no_colon n.node (omega (arith, s.node))) f.same

-- parts that are numbers in range make the full name of their endpoint
pub parts-full : (name d e p : List ℕ) (n : EndName) → name ≡ codes "mcapi:" ++ (d ++ (colon ∷ (e ++ (colon ∷ p)))) → d ≡ decimal n.domain → e ≡ decimal n.node → p ≡ decimal n.port → IsSmall n → endpoint_named name ≡ Some n
parts-full name d e p n made is_d is_e is_p s =
    let full : name ≡ full_name n = made ∙ rw (is_d, is_e, is_p) refl in
    ap endpoint_named full ∙ read_back n (small-in_range n s)

-- no name names two
some_is : (n m : EndName) → Some n ≡ Some m → n ≡ m
some_is n m h = cc

pub one_named : (n m : EndName) → is_in_range n ≡ true → is_in_range m ≡ true → full_name n ≡ full_name m → n ≡ m
one_named n m h k same = some_is n m (sym (read_back n h) ∙ ap endpoint_named same ∙ read_back m k)
