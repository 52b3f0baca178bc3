-- How often a number stands in a list, and how long a list of numbers that differ can be.
use Rattle.std.proofs.Common.{◌≡◌, ◌≢◌, ℕ, zero, suc, ◌+◌, ◌<◌, ◌≤◌, eqb, ltb, cond, Bool, true, false, List, [], ◌∷◌, ◌++◌, length, sym, refl, ap, arith, eq-eqb, ne_eqb, lt-ltb, le-ltb, get_or, Some, ◌∙◌}
use Rattle.std.specs.Prelude.{Contains, ◌==◌, position}
use Rattle.std.specs.List.{range_with_len, remove}
use Rattle.std.proofs.lemmas.List.Quantifiers.{position-Some}
use mathlib.Core.Logic.{dite}
use native.Mathlib.Decide.{ℕ_discrete, dec_lt}
use Rattle.lane_end.specs.Numbers.{often, inside, all_numbers, AreApart}
use Rattle.lane_end.specs.ReceiverContract.{without}
pub use Rattle.lane_end.specs.ShuttleLaws.{often-append}

-- 1 where the two are the same
abbrev pub tick : ℕ → ℕ → ℕ
tick a x = cond (eqb a x) 1 0

pub tick-same : (a x : ℕ) → a ≡ x → tick a x ≡ 1
tick-same a x e = ap (λ (b : Bool). cond b 1 0) (eq-eqb a x e)

tick-other : (a x : ℕ) → a ≢ x → tick a x ≡ 0
tick-other a x n = ap (λ (b : Bool). cond b 1 0) (ne_eqb a x n)

inside-le : (size x : ℕ) → inside size x ≤ 1
inside-le size x = elim (ltb x size) as (λ b. cond b 1 0 ≤ 1) [ true ↦ omega arith | false ↦ omega arith ]

inside-yes : (size x : ℕ) → x < size → inside size x ≡ 1
inside-yes size x l = ap (λ (b : Bool). cond b 1 0) (lt-ltb x size l)

inside-no : (size x : ℕ) → size ≤ x → inside size x ≡ 0
inside-no size x l = ap (λ (b : Bool). cond b 1 0) (le-ltb x size l)

inside-lt : (size x : ℕ) → 0 < inside size x → x < size
inside-lt size x h = dite (dec_lt x size) (λ l. l) (λ n. let e = inside-no size x (omega arith) in absurd (omega arith))

-- the sum of f below n
abbrev sum_to : ℕ → (ℕ → ℕ) → ℕ
sum_to zero f = 0
sum_to (suc n) f = f n + sum_to n f

sum_zero : (n : ℕ) → sum_to n (λ _. 0) ≡ 0
sum_zero zero = refl
sum_zero (suc n) = let h = sum_zero n in omega (arith, h)

sum_add : (n : ℕ) (f g : ℕ → ℕ) → sum_to n (λ k. f k + g k) ≡ sum_to n f + sum_to n g
sum_add zero f g = refl
sum_add (suc n) f g = let h = sum_add n f g in omega (arith, h)

sum_none : (n a : ℕ) → n ≤ a → sum_to n (λ k. tick a k) ≡ 0
sum_none zero a l = refl
sum_none (suc n) a l = let h = sum_none n a (omega arith) in let o = tick-other a n (λ e. omega arith) in omega (arith, h, o)

sum_one : (n a : ℕ) → a < n → sum_to n (λ k. tick a k) ≡ 1
sum_one zero a l = absurd (omega arith)
sum_one (suc n) a l = dite (ℕ_discrete a n) (λ e. let h = sum_none n a (omega arith) in let o = tick-same a n e in omega (arith, h, o))
    (λ ne. let h = sum_one n a (omega arith) in let o = tick-other a n ne in omega (arith, h, o))

bounded : (n : ℕ) (f : ℕ → ℕ) → ((k : ℕ) → f k ≤ 1) → sum_to n f ≤ n
bounded zero f h = omega arith
bounded (suc n) f h = let a = h n in let b = bounded n f h in omega (arith, a, b)

length_is : (n : ℕ) (xs : List ℕ) → ((x : ℕ) → 0 < often x xs → x < n) → sum_to n (λ k. often k xs) ≡ length xs
length_is n [] h = sum_zero n
length_is n (a ∷ xs) h =
    let same = tick-same a a refl in
    let one = sum_one n a (h a (omega (arith, same))) in
    let rest = length_is n xs (λ x l. h x (omega arith)) in
    let both = sum_add n (λ k. tick a k) (λ k. often k xs) in
    omega (arith, one, rest, both)

-- numbers that differ and are below n are at most n
pub length-apart : (n : ℕ) (xs : List ℕ) → AreApart n xs → length xs ≤ n
length-apart n xs h =
    let is = length_is n xs (λ x l. inside-lt n x (let k = h x in omega (arith, k))) in
    let most = bounded n (λ k. often k xs) (λ k. let u = h k in let v = inside-le n k in omega (arith, u, v)) in
    omega (arith, is, most)

-- a part of numbers that differ
pub apart-part : (size : ℕ) (xs ys : List ℕ) → ((x : ℕ) → often x xs ≤ often x ys) → AreApart size ys → AreApart size xs
apart-part size xs ys less apart x = let a = less x in let b = apart x in omega (arith, a, b)

often-below : (x a n : ℕ) → x < a → often x (range_with_len a n) ≡ 0
often-below x a zero l = refl
often-below x a (suc n) l = let h = often-below x (a + 1) n (omega arith) in let o = tick-other a x (λ e. omega arith) in omega (arith, h, o)

often-range : (x a n : ℕ) → a ≤ x → often x (range_with_len a n) ≡ inside (a + n) x
often-range x a zero l = let o = inside-no (a + 0) x (omega arith) in omega (arith, o)
often-range x a (suc n) l = dite (ℕ_discrete a x)
    (λ e. let s = tick-same a x e in let b = often-below x (a + 1) n (omega arith) in let y = inside-yes (a + suc n) x (omega arith) in omega (arith, s, b, y))
    (λ ne. let o = tick-other a x ne in let h = often-range x (a + 1) n (omega (arith, ne)) in let e : a + 1 + n ≡ a + suc n = omega arith in let i = ap (λ (m : ℕ). inside m x) e in omega (arith, o, h, i))

-- each number of a lane stands once among all of them
pub often-all : (size x : ℕ) → often x (all_numbers size) ≡ inside size x
often-all size x = let h = often-range x 0 size (omega arith) in let e : 0 + size ≡ size = omega arith in h ∙ ap (λ (m : ℕ). inside m x) e

range-more : (a n : ℕ) → range_with_len a (suc n) ≡ range_with_len a n ++ (a + n) ∷ []
range-more a zero = let e : a ≡ a + 0 = omega arith in ap (λ (m : ℕ). m ∷ []) e
range-more a (suc n) = let e : a + 1 + n ≡ a + suc n = omega arith in ap (λ (ms : List ℕ). a ∷ ms) (range-more (a + 1) n ∙ ap (λ (m : ℕ). range_with_len (a + 1) n ++ m ∷ []) e)

-- one number more
pub all-more : (n : ℕ) → all_numbers (n + 1) ≡ all_numbers n ++ n ∷ []
all-more n = let e : n + 1 ≡ suc n = omega arith in let z : 0 + n ≡ n = omega arith in ap (range_with_len 0) e ∙ (range-more 0 n ∙ ap (λ (m : ℕ). range_with_len 0 n ++ m ∷ []) z)

contained_at : (xs : List ℕ) (n k : ℕ) → k < length xs → get_or xs k n ≡ n → 0 < often n xs
contained_at [] n k l e = absurd (omega arith)
contained_at (x ∷ xs) n zero l e = let s = tick-same x n e in omega (arith, s)
contained_at (x ∷ xs) n (suc k) l e = let h = contained_at xs n k (omega arith) e in omega (arith, h)

pub often-contained : (xs : List ℕ) (n : ℕ) → Contains xs n → 0 < often n xs
often-contained xs n (k, l, e) = contained_at xs n k l e

is-same : (a b : ℕ) → (a == b) ≡ true → a ≡ b
is-same a b e = grind arith

-- a number that leaves stands once less
pub often-without : (x n : ℕ) (xs : List ℕ) → 0 < often n xs → often x xs ≡ often x (without n xs) + tick n x
often-without x n [] l = absurd (omega arith)
often-without x n (y ∷ ys) l = elim (y == n) as (λ b. (y == n) ≡ b → often x (y ∷ ys) ≡ often x (cond b ys (y ∷ without n ys)) + tick n x) [
  | true ↦ λ e. let same : y ≡ n = is-same y n e in let t = ap (λ (m : ℕ). tick m x) same in omega (arith, t)
  | false ↦ λ e. let none : tick y n ≡ 0 = ap (λ (b : Bool). cond b 1 0) e in let left : 0 < often n ys = omega (arith, none) in let more = often-without x n ys left in omega (arith, more)
] refl

pub length-without : (n : ℕ) (xs : List ℕ) → 0 < often n xs → length (without n xs) + 1 ≡ length xs
length-without n [] l = absurd (omega arith)
length-without n (y ∷ ys) l = elim (y == n) as (λ b. (y == n) ≡ b → length (cond b ys (y ∷ without n ys)) + 1 ≡ length (y ∷ ys)) [
  | true ↦ λ e. omega arith
  | false ↦ λ e. let none : tick y n ≡ 0 = ap (λ (b : Bool). cond b 1 0) e in let left : 0 < often n ys = omega (arith, none) in let more = length-without n ys left in omega (arith, more)
] refl

cut : (xs : List ℕ) (n i : ℕ) → i < length xs → (get_or xs i 0 == n) ≡ true → ((k : ℕ) → k < i → (get_or xs k 0 == n) ≡ false) → remove xs i ≡ without n xs
cut [] n i l at before = absurd (omega arith)
cut (x ∷ xs) n zero l at before = rw at refl
cut (x ∷ xs) n (suc i) l at before =
    let first : (x == n) ≡ false = before 0 (omega arith) in
    rw first (ap (λ (ys : List ℕ). x ∷ ys) (cut xs n i (omega arith) at (λ k below. before (suc k) (omega arith))))

-- the first place of a number is where it leaves
pub remove-first : (xs : List ℕ) (n i : ℕ) → Some i ≡ position (λ x. x == n) xs → remove xs i ≡ without n xs
remove-first xs n i at = let p = position-Some (λ (x : ℕ). x == n) xs i 0 (sym at) in cut xs n i p.0 p.1 p.2

-- a number that stands there is contained
pub contained-often : (xs : List ℕ) (n : ℕ) → 0 < often n xs → Contains xs n
contained-often [] n l = absurd (omega arith)
contained-often (y ∷ ys) n l = elim (y == n) as (λ b. (y == n) ≡ b → Contains (y ∷ ys) n) [
  | true ↦ λ e. (0, omega arith, is-same y n e)
  | false ↦ λ e. let none : tick y n ≡ 0 = ap (λ (b : Bool). cond b 1 0) e in let left : 0 < often n ys = omega (arith, none) in let c = contained-often ys n left in (suc c.0, omega (arith, c.1), c.2)
] refl
