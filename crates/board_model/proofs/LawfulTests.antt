-- What a test tells that all items of a list pass, or that none does.
use Rattle.std.proofs.Common.{◌≡◌, ℕ, Bool, true, false, ◌||◌, List, [], ◌∷◌, ◌++◌, map, Contains, refl, sym, ◌∙◌, arith, eqb-true}
use Rattle.std.specs.Prelude.{◌==◌}
use Rattle.std.specs.List.{AllByRecursion, list_all, list_any}
use Rattle.std.proofs.lemmas.Bool.{and_parts, or_parts}
use Rattle.std.proofs.lemmas.List.Folds.{list_all-append}
use Rattle.std.proofs.lemmas.List.Elements.{Contains-append_right}

pub none-pass : {A : Type 0} (p : A → Bool) (xs : List A) → list_any p xs ≡ false → AllByRecursion (λ x. p x ≡ false) xs
none-pass p [] e = tt
none-pass p (x ∷ xs) e = let parts = or_parts (p x) (list_any p xs) e in (parts.0, none-pass p xs parts.1)

-- both lists pass
pub all-both : {A : Type 0} (p : A → Bool) (xs ys : List A) → list_all p (xs ++ ys) ≡ true → (list_all p xs ≡ true) × (list_all p ys ≡ true)
all-both p xs ys e = and_parts (list_all p xs) (list_all p ys) (sym (list_all-append p xs ys) ∙ e)

-- a key that is found is in the list
pub any-contains : {A : Type 0} (key : A → ℕ) (n : ℕ) (xs : List A) → list_any (λ x. key x == n) xs ≡ true → Contains (map key xs) n
any-contains key n [] e = absurd cc
any-contains key n (x ∷ xs) e = go (key x == n) refl e (λ any. any-contains key n xs any)
  where
    go : (b : Bool) → (key x == n) ≡ b → (b || list_any (λ y. key y == n) xs) ≡ true → (list_any (λ y. key y == n) xs ≡ true → Contains (map key xs) n) → Contains (key x ∷ map key xs) n
    go true here any rest = (0, omega arith, eqb-true (key x) n here)
    go false other any rest = Contains-append_right (key x ∷ []) (map key xs) n (rest any)
