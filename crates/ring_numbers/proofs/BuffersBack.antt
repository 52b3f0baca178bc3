-- Buffers that come back one by one.
use Rattle.std.proofs.Common.{◌≡◌, ℕ, zero, suc, ◌+◌, ◌<◌, ◌&&◌, Bool, true, false, List, [], ◌∷◌, ◌++◌, take, drop, refl, ap, sym, ◌∙◌, arith}
use Rattle.std.specs.List.{list_all, range_with_len}
use Rattle.std.proofs.lemmas.List.{map-id}
use Rattle.std.proofs.lemmas.List.Folds.{list_all-append}
use Rattle.std.proofs.lemmas.List.FromFn.{map-range_with_len_more}

pub range-more : (a n : ℕ) → range_with_len a (n + 1) ≡ range_with_len a n ++ (a + n) ∷ []
range-more a n =
    sym (map-id (range_with_len a (n + 1)))
    ∙ map-range_with_len_more (λ (k : ℕ). k) a n (a + n) refl
    ∙ ap (λ (ks : List ℕ). ks ++ (a + n) ∷ []) (map-id (range_with_len a n))

plus-one : (k : ℕ) → k + 1 ≡ suc k
plus-one k = omega arith

take-suc : (xs : List ℕ) (k x : ℕ) (rest : List ℕ) → drop k xs ≡ x ∷ rest → take (suc k) xs ≡ take k xs ++ x ∷ []
take-suc [] zero x rest e = absurd cc
take-suc [] (suc k) x rest e = absurd cc
take-suc (y ∷ ys) zero x rest e = let same : y ≡ x = cc in ap (λ z. z ∷ []) same
take-suc (y ∷ ys) (suc k) x rest e = ap (λ zs. y ∷ zs) (take-suc ys k x rest e)

drop-suc : (xs : List ℕ) (k x : ℕ) (rest : List ℕ) → drop k xs ≡ x ∷ rest → drop (suc k) xs ≡ rest
drop-suc [] zero x rest e = absurd cc
drop-suc [] (suc k) x rest e = absurd cc
drop-suc (y ∷ ys) zero x rest e = cc
drop-suc (y ∷ ys) (suc k) x rest e = drop-suc ys k x rest e

pub take-next : (xs : List ℕ) (k x : ℕ) (rest : List ℕ) → drop k xs ≡ x ∷ rest → take (k + 1) xs ≡ take k xs ++ x ∷ []
take-next xs k x rest e = ap (λ n. take n xs) (plus-one k) ∙ take-suc xs k x rest e

pub drop-next : (xs : List ℕ) (k x : ℕ) (rest : List ℕ) → drop k xs ≡ x ∷ rest → drop (k + 1) xs ≡ rest
drop-next xs k x rest e = ap (λ n. drop n xs) (plus-one k) ∙ drop-suc xs k x rest e

-- one of the first that fails
pub fails-among : (p : ℕ → Bool) (xs : List ℕ) (k count x : ℕ) (rest : List ℕ) → drop k xs ≡ x ∷ rest → k < count → p x ≡ false → list_all p (take count xs) ≡ false
fails-among p [] zero count x rest e lt fails = absurd cc
fails-among p [] (suc k) count x rest e lt fails = absurd cc
fails-among p (y ∷ ys) zero zero x rest e lt fails = absurd (omega (arith, lt))
fails-among p (y ∷ ys) zero (suc count) x rest e lt fails = let same : y ≡ x = cc in ap (λ (z : ℕ). p z && list_all p (take count ys)) same ∙ ap (λ (b : Bool). b && list_all p (take count ys)) fails
fails-among p (y ∷ ys) (suc k) zero x rest e lt fails = absurd (omega (arith, lt))
fails-among p (y ∷ ys) (suc k) (suc count) x rest e lt fails = ap (λ (b : Bool). p y && b) (fails-among p ys k count x rest e (omega (arith, lt)) fails) ∙ and-false (p y)
  where
    and-false : (b : Bool) → (b && false) ≡ false
    and-false true = refl
    and-false false = refl

-- all of the first pass, and so does the next
pub pass-next : (p : ℕ → Bool) (xs : List ℕ) (k x : ℕ) (rest : List ℕ) → drop k xs ≡ x ∷ rest → list_all p (take k xs) ≡ true → p x ≡ true → list_all p (take (k + 1) xs) ≡ true
pass-next p xs k x rest e all passes =
    ap (list_all p) (take-next xs k x rest e)
    ∙ list_all-append p (take k xs) (x ∷ [])
    ∙ ap (λ (b : Bool). b && (p x && true)) all
    ∙ ap (λ (b : Bool). b && true) passes
