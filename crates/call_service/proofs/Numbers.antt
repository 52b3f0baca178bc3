-- Lists of calls whose numbers rise by one.
use Rattle.std.proofs.Common.{◌≡◌, ℕ, zero, suc, ◌+◌, ◌≤◌, ◌<◌, true, false, ◌==◌, inl, inr, List, [], ◌∷◌, ◌++◌, length, map, filter, cond, Option, Some, None, refl, ap, sym, ◌∙◌, arith, eq-eqb}
use Rattle.std.specs.List.{list_any}
use Rattle.std.proofs.lemmas.Bool.{eqb-true, or_cases, or_left, or_right, cases_Bool}
use Rattle.std.proofs.lemmas.List.{map-append}
use Rattle.call_service.specs.declared.carried.Carried.{Carried}
use Rattle.call_service.specs.Served.{rising, last_after}

first_or_none : List ℕ → ℕ
first_or_none [] = 0
first_or_none (x ∷ xs) = x

rest_of : List ℕ → List ℕ
rest_of [] = []
rest_of (x ∷ xs) = xs

abbrev pub RiseFrom : ℕ → List Carried → Type 0
RiseFrom from xs = map (λ e. e.number) xs ≡ rising from (length xs)

pub first_is : (from : ℕ) (e : Carried) (xs : List Carried) → RiseFrom from (e ∷ xs) → e.number ≡ from
unfolding first_or_none
first_is from e xs h = ap first_or_none h

pub rest_rises : (from : ℕ) (e : Carried) (xs : List Carried) → RiseFrom from (e ∷ xs) → RiseFrom (from + 1) xs
unfolding rest_of
rest_rises from e xs h = ap rest_of h

-- ---- the numbers among them

pub among : (from n : ℕ) (xs : List Carried) → RiseFrom from xs → list_any (λ e. e.number == n) xs ≡ true → (from ≤ n) × (n < from + length xs)
among from n [] h any = cc
among from n (e ∷ xs) h any =
    elim (or_cases (e.number == n) (list_any (λ e. e.number == n) xs) any) [
      | inl same ↦ let at = first_is from e xs h in let is = eqb-true e.number n same in (omega (arith, at, is), omega (arith, at, is))
      | inr rest ↦ let more = among (from + 1) n xs (rest_rises from e xs h) rest in (omega (arith, more.0), omega (arith, more.1))
    ]

not_equal : (a b : ℕ) → (a == b) ≡ false → a ≡ b → ⊥
not_equal a b other same = let t = eq-eqb a b same in cc

pub is_among : (from n : ℕ) (xs : List Carried) → RiseFrom from xs → from ≤ n → n < from + length xs → list_any (λ e. e.number == n) xs ≡ true
is_among from n [] h low high = absurd (omega (arith, low, high))
is_among from n (e ∷ xs) h low high =
    let at = first_is from e xs h in
    elim (cases_Bool (e.number == n)) [
      | inl same ↦ or_left (e.number == n) (list_any (λ e. e.number == n) xs) same
      | inr other ↦ or_right (e.number == n) (list_any (λ e. e.number == n) xs) (is_among (from + 1) n xs (rest_rises from e xs h) (omega (arith, at, low, not_equal e.number n other)) (omega (arith, high)))
    ]

-- ---- how many have a number

none_below : (from n : ℕ) (xs : List Carried) → RiseFrom from xs → n < from → length (filter (λ e. e.number == n) xs) ≡ 0
none_below from n [] h low = refl
none_below from n (e ∷ xs) h low =
    let at = first_is from e xs h in
    elim (cases_Bool (e.number == n)) [
      | inl same ↦ absurd (let is = eqb-true e.number n same in omega (arith, at, is, low))
      | inr other ↦ ap (λ b. length (cond b (e ∷ filter (λ e. e.number == n) xs) (filter (λ e. e.number == n) xs))) other ∙ none_below (from + 1) n xs (rest_rises from e xs h) (omega (arith, low))
    ]

pub at_most_one : (from n : ℕ) (xs : List Carried) → RiseFrom from xs → length (filter (λ e. e.number == n) xs) ≤ 1
at_most_one from n [] h = omega arith
at_most_one from n (e ∷ xs) h =
    let at = first_is from e xs h in
    elim (cases_Bool (e.number == n)) [
      | inl same ↦
          let is = eqb-true e.number n same in
          let none = none_below (from + 1) n xs (rest_rises from e xs h) (omega (arith, at, is)) in
          rw same (omega (arith, none))
      | inr other ↦ rw other (at_most_one (from + 1) n xs (rest_rises from e xs h))
    ]

-- ---- the last of them

last_is : (from : ℕ) (x : Carried) (xs : List Carried) (e : Carried) → x.number ≡ from → RiseFrom (from + 1) xs → last_after (Some x) xs ≡ Some e → e.number ≡ from + length xs
last_is from x [] e at h is = let same : x ≡ e = cc in omega (arith, at, ap (λ (e : Carried). e.number) same)
last_is from x (y ∷ ys) e at h is = last_is (from + 1) y ys e (first_is (from + 1) y ys h) (rest_rises (from + 1) y ys h) is ∙ omega arith

pub last_number : (from : ℕ) (xs : List Carried) (e : Carried) → RiseFrom from xs → last_after None xs ≡ Some e → e.number + 1 ≡ from + length xs
last_number from [] e h is = cc
last_number from (x ∷ xs) e h is = let at = last_is from x xs e (first_is from x xs h) (rest_rises from x xs h) is in omega (arith, at)

stays_some : (x : Carried) (xs : List Carried) → last_after (Some x) xs ≡ None → ⊥
stays_some x [] is = cc
stays_some x (y ∷ ys) is = stays_some y ys is

pub no_last : (xs : List Carried) → last_after None xs ≡ None → xs ≡ []
no_last [] is = refl
no_last (x ∷ xs) is = absurd (stays_some x xs is)

last_or_among : (n : ℕ) (x : Carried) (xs : List Carried) (e : Carried) → last_after (Some x) xs ≡ Some e → e.number ≡ n → list_any (λ e. e.number == n) (x ∷ xs) ≡ true
last_or_among n x [] e got is = let same : x ≡ e = cc in or_left (x.number == n) false (eq-eqb x.number n (ap (λ (e : Carried). e.number) same ∙ is))
last_or_among n x (y ∷ ys) e got is = or_right (x.number == n) (list_any (λ e. e.number == n) (y ∷ ys)) (last_or_among n y ys e got is)

pub last_among : (n : ℕ) (xs : List Carried) (e : Carried) → last_after None xs ≡ Some e → e.number ≡ n → list_any (λ e. e.number == n) xs ≡ true
last_among n [] e got is = cc
last_among n (x ∷ xs) e got is = last_or_among n x xs e got is

-- ---- one more behind them

rising-more : (from n : ℕ) → rising from (suc n) ≡ rising from n ++ (from + n) ∷ []
rising-more from zero = ap (λ m. m ∷ []) (omega arith)
rising-more from (suc n) = ap (λ r. from ∷ r) (rising-more (from + 1) n ∙ ap (λ m. rising (from + 1) n ++ m ∷ []) (omega arith))

pub length-more : (xs : List Carried) (e : Carried) → length (xs ++ e ∷ []) ≡ suc (length xs)
length-more [] e = refl
length-more (x ∷ xs) e = ap suc (length-more xs e)

pub rises-more : (from : ℕ) (xs : List Carried) (e : Carried) → RiseFrom from xs → e.number ≡ from + length xs → RiseFrom from (xs ++ e ∷ [])
rises-more from xs e h at =
    map-append (λ (c : Carried). c.number) xs (e ∷ [])
    ∙ ap (λ ns. ns ++ e.number ∷ []) h
    ∙ ap (λ m. rising from (length xs) ++ m ∷ []) at
    ∙ sym (rising-more from (length xs))
    ∙ ap (rising from) (sym (length-more xs e))

pub last-more : (o : Option Carried) (xs : List Carried) (e : Carried) → last_after o (xs ++ e ∷ []) ≡ Some e
last-more o [] e = refl
last-more o (x ∷ xs) e = last-more (Some x) xs e

pub among-more : (n : ℕ) (xs ys : List Carried) → list_any (λ e. e.number == n) xs ≡ true → list_any (λ e. e.number == n) (xs ++ ys) ≡ true
among-more n [] ys any = cc
among-more n (e ∷ xs) ys any =
    elim (or_cases (e.number == n) (list_any (λ e. e.number == n) xs) any) [
      | inl same ↦ or_left (e.number == n) (list_any (λ e. e.number == n) (xs ++ ys)) same
      | inr rest ↦ or_right (e.number == n) (list_any (λ e. e.number == n) (xs ++ ys)) (among-more n xs ys rest)
    ]
