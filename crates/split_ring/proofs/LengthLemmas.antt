-- Lists in which each number stands as often have the same length.
use Rattle.std.proofs.Common.{◌≡◌, ℕ, zero, suc, ◌+◌, ◌<◌, Bool, true, false, cond, List, [], ◌∷◌, ◌++◌, length, map, refl, ap, arith, length-append}
use Rattle.std.proofs.lemmas.List.{length-map}
use Rattle.std.specs.Prelude.{◌==◌}
use Rattle.shared_words.specs.Entry.{Entry, number_of, times, often}
use Rattle.shared_words.specs.Places.{begins, starts_with}
use Rattle.shared_words.specs.Slots.{numbers_from}
use Rattle.shared_words.specs.declared.view.Role.{Role}
use Rattle.shared_words.specs.declared.view.Role.TheVariants.{Driver, Device}
use Rattle.shared_words.proofs.CountLemmas.{tick, tick-same, by-append, by-map, all_numbers}

-- the list without the first n in it
abbrev without : ℕ → List ℕ → List ℕ
without n [] = []
without n (x ∷ xs) = cond (x == n) xs (x ∷ without n xs)

same-number : (a b : ℕ) → (a == b) ≡ true → a ≡ b
same-number a b e = grind arith

often-without : (x n : ℕ) (xs : List ℕ) → 0 < often n xs → often x xs ≡ often x (without n xs) + tick n x
often-without x n [] l = absurd (omega arith)
often-without x n (y ∷ ys) l = elim (y == n) as (λ b. (y == n) ≡ b → often x (y ∷ ys) ≡ often x (cond b ys (y ∷ without n ys)) + tick n x) [
  | true ↦ λ e. let same : y ≡ n = same-number y n e in let t = ap {B = ℕ} (λ (m : ℕ). tick m x) same in omega (arith, t)
  | false ↦ λ e. let none : tick y n ≡ 0 = ap {B = ℕ} (λ (b : Bool). cond b 1 0) e in let left : 0 < often n ys = omega (arith, none) in let more = often-without x n ys left in omega (arith, more)
] refl

length-without : (n : ℕ) (xs : List ℕ) → 0 < often n xs → length (without n xs) + 1 ≡ length xs
length-without n [] l = absurd (omega arith)
length-without n (y ∷ ys) l = elim (y == n) as (λ b. (y == n) ≡ b → length (cond b ys (y ∷ without n ys)) + 1 ≡ length (y ∷ ys)) [
  | true ↦ λ e. omega arith
  | false ↦ λ e. let none : tick y n ≡ 0 = ap {B = ℕ} (λ (b : Bool). cond b 1 0) e in let left : 0 < often n ys = omega (arith, none) in let more = length-without n ys left in omega (arith, more)
] refl

pub same-length : (xs ys : List ℕ) → ((x : ℕ) → often x xs ≡ often x ys) → length xs ≡ length ys
same-length [] [] same = refl
same-length [] (y ∷ ys) same = let s = same y in let o = tick-same y y refl in absurd (omega (arith, s, o))
same-length (x ∷ xs) ys same = let s = same x in let o = tick-same x x refl in let l : 0 < often x ys = omega (arith, s, o) in
    let h = same-length xs (without x ys) (λ z. let q = same z in let w = often-without z x ys l in omega (arith, q, w)) in let k = length-without x ys l in omega (arith, h, k)

pub often-numbers : (x : ℕ) (es : List Entry) → often x (map number_of es) ≡ times x es
often-numbers x es = by-map (λ (n : ℕ). n) number_of x es

length-from : (j n : ℕ) → length (numbers_from j n) ≡ n
length-from j zero = refl
length-from j (suc n) = let h = length-from (suc j) n in omega (arith, h)

-- the numbers that a half begins with
abbrev first-numbers : Role → ℕ → List ℕ
first-numbers Driver size = numbers_from 0 size
first-numbers Device size = []

first-times : (role : Role) (size x : ℕ) → often x (first-numbers role size) ≡ begins role size x
first-times Driver size x = all_numbers x size
first-times Device size x = refl

first-count : (role : Role) (size : ℕ) → length (first-numbers role size) ≡ starts_with role size
first-count Driver size = length-from 0 size
first-count Device size = refl

-- how many numbers a half holds
pub held_count_is : (role : Role) (taken written : List Entry) (held : List ℕ) (size : ℕ) → ((x : ℕ) → often x held + times x written ≡ begins role size x + times x taken) → length held + length written ≡ starts_with role size + length taken
held_count_is role taken written held size each =
    let first : List ℕ = first-numbers role size in
    let same = same-length (held ++ map number_of written) (first ++ map number_of taken) (λ x. let h = each x in let a = by-append (λ (n : ℕ). n) x held (map number_of written) in let b = by-append (λ (n : ℕ). n) x first (map number_of taken) in
    let c = often-numbers x written in let d = often-numbers x taken in let f = first-times role size x in omega (arith, h, a, b, c, d, f)) in
    let a = length-append held (map number_of written) in let b = length-append first (map number_of taken) in let c = length-map written number_of in let d = length-map taken number_of in let f = first-count role size in omega (arith, same, a, b, c, d, f)
