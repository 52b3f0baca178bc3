-- How often a number stands in the first members of a list.
use Rattle.std.proofs.Common.{◌≡◌, ℕ, zero, suc, ◌+◌, ◌<◌, ◌≤◌, List, [], ◌∷◌, ◌++◌, length, take, Some, refl, ap, ◌∙◌, arith}
use Rattle.std.specs.Prelude.{slice_get}
use Rattle.std.proofs.lemmas.List.{take-append-le}
use Rattle.std.proofs.lemmas.Option.{slice_get_within}
use Rattle.lane_end.specs.Numbers.{often}
use Rattle.lane_end.proofs.CountLemmas.{tick-same}

pub get-more : (xs ys : List ℕ) (p n : ℕ) → slice_get xs p ≡ Some n → slice_get (xs ++ ys) p ≡ Some n
get-more [] ys p n e = absurd cc
get-more (x ∷ xs) ys zero n e = e
get-more (x ∷ xs) ys (suc p) n e = get-more xs ys p n e

pub get-front : (xs ys : List ℕ) (p : ℕ) → p < length xs → slice_get (xs ++ ys) p ≡ slice_get xs p
get-front [] ys p l = absurd (omega (arith, l))
get-front (x ∷ xs) ys zero l = refl
get-front (x ∷ xs) ys (suc p) l = get-front xs ys p (omega (arith, l))

pub take-more : (xs ys : List ℕ) (p n : ℕ) → slice_get xs p ≡ Some n → take (p + 1) (xs ++ ys) ≡ take (p + 1) xs
take-more xs ys p n e = take-append-le (p + 1) xs ys (let w = slice_get_within xs p n e in omega (arith, w))

pub front-less : (x k : ℕ) (xs : List ℕ) → often x (take k xs) ≤ often x xs
front-less x zero [] = omega arith
front-less x (suc k) [] = omega arith
front-less x zero (y ∷ ys) = omega arith
front-less x (suc k) (y ∷ ys) = let h = front-less x k ys in omega (arith, h)

front-suc : (xs : List ℕ) (p n : ℕ) → slice_get xs p ≡ Some n → often n (take (suc p) xs) ≡ often n (take p xs) + 1
front-suc [] p n e = absurd cc
front-suc (x ∷ xs) zero n e = let is : x ≡ n = cc in let t = tick-same x n is in omega (arith, t)
front-suc (x ∷ xs) (suc p) n e = let h = front-suc xs p n e in omega (arith, h)

-- the one that stands there is one more
pub front-next : (xs : List ℕ) (p n : ℕ) → slice_get xs p ≡ Some n → often n (take (p + 1) xs) ≡ often n (take p xs) + 1
front-next xs p n e = let one : p + 1 ≡ suc p = omega arith in ap (λ (k : ℕ). often n (take k xs)) one ∙ front-suc xs p n e

pub front-whole : (x : ℕ) (xs ys : List ℕ) (p : ℕ) → length xs ≤ p → often x xs ≤ often x (take p (xs ++ ys))
front-whole x [] ys p l = omega arith
front-whole x (y ∷ xs) ys zero l = absurd (omega (arith, l))
front-whole x (y ∷ xs) ys (suc p) l = let h = front-whole x xs ys p (omega (arith, l)) in omega (arith, h)
