-- What a search for bytes passes over.
use Rattle.std.proofs.Common.{◌≡◌, ℕ, zero, suc, ◌+◌, ◌≤◌, length, take, drop, Bool, true, false, not, List, [], ◌∷◌, refl, arith}
use Rattle.std.specs.Prelude.{◌&&◌}
use Rattle.std.specs.List.{list_all}
use Rattle.std.proofs.lemmas.Bool.{and_parts}
use Rattle.memchr.specs.Find.{Nowhere, Passes}

both : (a b : Bool) → a ≡ true → b ≡ true → (a && b) ≡ true
both true true p q = refl
both true false p q = q
both false b p q = p

not_from : (t : Bool) → (t ≡ true → ⊥) → not t ≡ true
not_from true h = absurd (h refl)
not_from false h = refl

-- no byte passes before the place
pub none_passes : (test : ℕ → Bool) (hay : List ℕ) (k : ℕ) → k ≤ length hay → Nowhere (Passes test hay) 0 k → list_all (λ b. not (test b)) (take k hay) ≡ true
none_passes test hay zero fits none = refl
none_passes test [] (suc k) fits none = absurd (omega (arith, fits))
none_passes test (x ∷ xs) (suc k) fits none =
    both (not (test x)) (list_all (λ b. not (test b)) (take k xs)) (not_from (test x) (λ h. none 0 (omega arith) (omega arith) h))
    (none_passes test xs k (omega (arith, fits)) (λ j low high h. none (suc j) (omega arith) (omega (arith, high)) h))

drop_none : (xs : List ℕ) → drop 0 xs ≡ xs
drop_none [] = refl
drop_none (x ∷ xs) = refl

-- none passes in the first part, nor in a front of the rest
pub none_in_both : (test : ℕ → Bool) (text : List ℕ) (m n : ℕ) → list_all test (take m text) ≡ true → list_all test (take n (drop m text)) ≡ true → list_all test (take (m + n) text) ≡ true
none_in_both test text zero n p q =
    let none : zero + n ≡ n = omega arith in
    rw none (rw (drop_none text) at q)
none_in_both test [] (suc m) n p q =
    let next : suc m + n ≡ suc (m + n) = omega arith in
    rw next refl
none_in_both test (x ∷ xs) (suc m) n p q =
    let k = and_parts (test x) (list_all test (take m xs)) p in
    let next : suc m + n ≡ suc (m + n) = omega arith in
    rw next (both (test x) (list_all test (take (m + n) xs)) k.0 (none_in_both test xs m n k.1 q))
