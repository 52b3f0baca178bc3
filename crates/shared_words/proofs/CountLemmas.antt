-- How often a number stands in a list, and how long such a list can be.
use Rattle.std.proofs.Common.{◌≡◌, ◌≢◌, ℕ, zero, suc, ◌+◌, ◌<◌, ◌≤◌, eqb, ltb, cond, Bool, true, false, List, [], ◌∷◌, ◌++◌, length, map, sym, refl, ap, ◌∙◌, subst, arith, eq-eqb, ne_eqb, lt-ltb, le-ltb}
use mathlib.Core.Option.{some, some-injective, some-ne-none}
use mathlib.Core.Logic.{dite}
use native.Mathlib.Decide.{ℕ_discrete, dec_lt}
use lib.ListN.{get_elem?}
use Rattle.shared_words.specs.Entry.{Entry, number_of, times, times_by, often, inside}
use Rattle.shared_words.specs.Slots.{numbers_from}

abbrev pub tick : ℕ → ℕ → ℕ
tick a x = cond (eqb a x) 1 0

pub tick-same : (a x : ℕ) → a ≡ x → tick a x ≡ 1
tick-same a x e = ap (λ (b : Bool). cond b 1 0) (eq-eqb a x e)

pub tick-other : (a x : ℕ) → a ≢ x → tick a x ≡ 0
tick-other a x n = ap (λ (b : Bool). cond b 1 0) (ne_eqb a x n)

pub inside-le : (size x : ℕ) → inside size x ≤ 1
inside-le size x = elim (ltb x size) as (λ b. cond b 1 0 ≤ 1) [ true ↦ omega arith | false ↦ omega arith ]

pub inside-lt : (size x : ℕ) → 0 < inside size x → x < size
inside-lt size x h = dite (dec_lt x size) (λ l. l) (λ n. absurd (let e : ltb x size ≡ false = le-ltb x size (omega arith) in let h' : 0 < cond false 1 0 = subst (λ (b : Bool). 0 < cond b 1 0) e h in omega arith))

pub inside-yes : (size x : ℕ) → x < size → inside size x ≡ 1
inside-yes size x l = ap (λ (b : Bool). cond b 1 0) (lt-ltb x size l)

pub inside-no : (size x : ℕ) → size ≤ x → inside size x ≡ 0
inside-no size x l = ap (λ (b : Bool). cond b 1 0) (le-ltb x size l)

-- the sum of f below n
abbrev sum_to : ℕ → (ℕ → ℕ) → ℕ
sum_to zero f = 0
sum_to (suc n) f = f n + sum_to n f

sum_zero : (n : ℕ) → sum_to n (λ _. 0) ≡ 0
sum_zero zero = refl
sum_zero (suc n) = let h = sum_zero n in omega (arith, h)

sum_add : (n : ℕ) (f g : ℕ → ℕ) → sum_to n (λ k. f k + g k) ≡ sum_to n f + sum_to n g
sum_add zero f g = refl
sum_add (suc n) f g = let h = sum_add n f g in omega (arith, h)

sum_tick : (n a : ℕ) → n ≤ a → sum_to n (λ k. tick a k) ≡ 0
sum_tick zero a l = refl
sum_tick (suc n) a l = let h = sum_tick n a (omega arith) in let o = tick-other a n (λ e. omega arith) in omega (arith, h, o)

sum_ticks : (n a : ℕ) → a < n → sum_to n (λ k. tick a k) ≡ 1
sum_ticks zero a l = absurd (omega arith)
sum_ticks (suc n) a l = dite (ℕ_discrete a n) (λ e. let h = sum_tick n a (omega arith) in let o = tick-same a n e in omega (arith, h, o))
    (λ ne. let h = sum_ticks n a (omega arith) in let o = tick-other a n ne in omega (arith, h, o))

bounded : (n : ℕ) (f : ℕ → ℕ) → ((k : ℕ) → f k ≤ 1) → sum_to n f ≤ n
bounded zero f h = omega arith
bounded (suc n) f h = let a = h n in let b = bounded n f h in omega (arith, a, b)

bounded_but : (n i : ℕ) (f : ℕ → ℕ) → ((k : ℕ) → f k ≤ 1) → i < n → f i ≡ 0 → sum_to n f < n
bounded_but zero i f h l e = absurd (omega arith)
bounded_but (suc n) i f h l e = dite (ℕ_discrete i n) (λ is. let a : f n ≡ 0 = subst (λ (k : ℕ). f k ≡ 0) is e in let b = bounded n f h in omega (arith, a, b))
    (λ ne. let a = h n in let b = bounded_but n i f h (omega arith) e in omega (arith, a, b))

module _ {A : Type 0} (key : A → ℕ) where
  pub by-append : (x : ℕ) (a b : List A) → times_by key x (a ++ b) ≡ times_by key x a + times_by key x b
  by-append x [] b = omega arith
  by-append x (e ∷ es) b = let h = by-append x es b in omega (arith, h)

  pub by-is : (x : ℕ) (e : A) → key e ≡ x → times_by key x (e ∷ []) ≡ 1
  by-is x e h = let k = tick-same (key e) x h in omega (arith, k)

  pub by-other : (x : ℕ) (e : A) → key e ≢ x → times_by key x (e ∷ []) ≡ 0
  by-other x e n = let h = tick-other (key e) x n in omega (arith, h)

  pub by-there : (xs : List A) (n : ℕ) (e : A) → get_elem? xs n ≡ some e → 0 < times_by key (key e) xs
  by-there [] n e h = absurd (some-ne-none e (sym h))
  by-there (x ∷ xs) zero e h = let one = tick-same (key x) (key e) (ap key (some-injective x e h)) in omega (arith, one)
  by-there (x ∷ xs) (suc n) e h = let k = by-there xs n e h in omega (arith, k)

  abbrev pub BelowBy : ℕ → List A → Type 0
  BelowBy size xs = (x : ℕ) → times_by key x xs ≤ inside size x

  length_is : (n : ℕ) (xs : List A) → ((x : ℕ) → 0 < times_by key x xs → x < n) → sum_to n (λ k. times_by key k xs) ≡ length xs
  length_is n [] h = sum_zero n
  length_is n (e ∷ es) h = let one = tick-same (key e) (key e) refl in let a = sum_ticks n (key e) (h (key e) (omega (arith, one))) in
      let b = length_is n es (λ x l. h x (omega arith)) in let c = sum_add n (λ k. tick (key e) k) (λ k. times_by key k es) in omega (arith, a, b, c)

  pub fewer_by : (n : ℕ) (xs : List A) → BelowBy n xs → length xs ≤ n
  fewer_by n xs h = let a = length_is n xs (λ x l. inside-lt n x (let k = h x in omega (arith, k))) in let b = bounded n (λ k. times_by key k xs) (λ k. let u = h k in let v = inside-le n k in omega (arith, u, v)) in omega (arith, a, b)

  pub fewer_but_by : (n i : ℕ) (xs : List A) → BelowBy n xs → i < n → times_by key i xs ≡ 0 → length xs < n
  fewer_but_by n i xs h l e = let a = length_is n xs (λ x l. inside-lt n x (let k = h x in omega (arith, k))) in
      let b = bounded_but n i (λ k. times_by key k xs) (λ k. let u = h k in let v = inside-le n k in omega (arith, u, v)) l e in omega (arith, a, b)

pub times-append : (x : ℕ) (a b : List Entry) → times x (a ++ b) ≡ times x a + times x b
times-append = by-append number_of

pub times-is : (x : ℕ) (e : Entry) → number_of e ≡ x → times x (e ∷ []) ≡ 1
times-is = by-is number_of

pub times-self : (e : Entry) → times (number_of e) (e ∷ []) ≡ 1
times-self e = by-is number_of (number_of e) e refl

pub times-other : (x : ℕ) (e : Entry) → number_of e ≢ x → times x (e ∷ []) ≡ 0
times-other = by-other number_of

pub stands-there : (xs : List Entry) (n : ℕ) (e : Entry) → get_elem? xs n ≡ some e → 0 < times (number_of e) xs
stands-there = by-there number_of

abbrev pub Below : ℕ → List Entry → Type 0
Below size xs = (x : ℕ) → times x xs ≤ inside size x

pub fewer : (n : ℕ) (xs : List Entry) → Below n xs → length xs ≤ n
fewer = fewer_by number_of

pub fewer_but : (n i : ℕ) (xs : List Entry) → Below n xs → i < n → times i xs ≡ 0 → length xs < n
fewer_but = fewer_but_by number_of

sum_le : (n : ℕ) (f g : ℕ → ℕ) → ((k : ℕ) → f k ≤ g k) → sum_to n f ≤ sum_to n g
sum_le zero f g h = omega arith
sum_le (suc n) f g h = let a = h n in let b = sum_le n f g h in omega (arith, a, b)

sum_inside : (m n : ℕ) → n ≤ m → sum_to n (inside m) ≡ n
sum_inside m zero l = refl
sum_inside m (suc n) l = let a = inside-yes m n (omega arith) in let b = sum_inside m n (omega arith) in omega (arith, a, b)

all_small : (N : ℕ) (xs : List Entry) → ((n : ℕ) (e : Entry) → get_elem? xs n ≡ some e → number_of e < N) → (x : ℕ) → 0 < times x xs → x < N
all_small N [] h x l = absurd (omega arith)
all_small N (e ∷ es) h x l = dite (ℕ_discrete (number_of e) x) (λ is. subst (λ (k : ℕ). k < N) is (h 0 e refl)) (λ ne. let o = tick-other (number_of e) x ne in all_small N es (λ n y at. h (suc n) y at) x (omega (arith, o, l)))

pub before_at : (xs ys zs : List Entry) → zs ≡ xs ++ ys → (n : ℕ) (e : Entry) → get_elem? xs n ≡ some e → get_elem? zs n ≡ some e
before_at xs ys zs is n e at = subst (λ (l : List Entry). get_elem? l n ≡ some e) (sym is) (Rattle.atomic_table.proofs.Lists.at_longer xs ys n e at)

pub shorter_by : (N : ℕ) (xs ys : List Entry) → ((n : ℕ) (e : Entry) → get_elem? xs n ≡ some e → number_of e < N) → ((n : ℕ) (e : Entry) → get_elem? ys n ≡ some e → number_of e < N) → ((x : ℕ) → times x xs ≤ times x ys) → length xs ≤ length ys
shorter_by N xs ys a b h = let p = length_is number_of N xs (all_small N xs a) in let q = length_is number_of N ys (all_small N ys b) in let r = sum_le N (λ k. times k xs) (λ k. times k ys) h in omega (arith, p, q, r)

pub longer_by : (N : ℕ) (xs ys : List Entry) → ((n : ℕ) (e : Entry) → get_elem? xs n ≡ some e → number_of e < N) → ((n : ℕ) (e : Entry) → get_elem? ys n ≡ some e → number_of e < N) → ((x : ℕ) → times x xs ≤ inside N x + times x ys) → length xs ≤ N + length ys
longer_by N xs ys a b h = let p = length_is number_of N xs (all_small N xs a) in let q = length_is number_of N ys (all_small N ys b) in let r = sum_le N (λ k. times k xs) (λ k. inside N k + times k ys) h in
    let s = sum_add N (inside N) (λ k. times k ys) in let t = sum_inside N N (omega arith) in omega (arith, p, q, r, s, t)

-- the numbers from 0 on
often-below : (x j n : ℕ) → x < j → often x (numbers_from j n) ≡ 0
often-below x j zero l = refl
often-below x j (suc n) l = let o = tick-other j x (λ e. omega arith) in let h = often-below x (suc j) n (omega arith) in omega (arith, o, h)

often-from : (x j n : ℕ) → j ≤ x → often x (numbers_from j n) ≡ inside (j + n) x
often-from x j zero l = sym (inside-no (j + 0) x (omega arith))
often-from x j (suc n) l = dite (ℕ_discrete j x)
    (λ e. let o = tick-same j x e in let b = often-below x (suc j) n (omega arith) in let y = inside-yes (j + suc n) x (omega arith) in omega (arith, o, b, y))
    (λ ne. let o = tick-other j x ne in let h = often-from x (suc j) n (omega (arith, ne)) in let i : inside (suc j + n) x ≡ inside (j + suc n) x = ap (λ (m : ℕ). inside m x) (let e : suc j + n ≡ j + suc n = omega arith in e) in omega (arith, o, h, i))

pub all_numbers : (x z : ℕ) → often x (numbers_from 0 z) ≡ inside z x
all_numbers x z = often-from x 0 z (omega arith) ∙ ap (λ (m : ℕ). inside m x) (let e : 0 + z ≡ z = omega arith in e)

pub by-map : {A B : Type 0} (number : B → ℕ) (f : A → B) (x : ℕ) (items : List A) → times_by number x (map f items) ≡ times_by (λ a. number (f a)) x items
by-map {A} {B} number f x [] = refl
by-map {A} {B} number f x (a ∷ more) = ap (λ (n : ℕ). tick (number (f a)) x + n) (by-map number f x more)
