-- Lists joined of which one alone has items.
use Rattle.std.proofs.Common.{◌≡◌, ℕ, Bool, true, false, cond, List, [], ◌∷◌, ◌++◌, map, drop, flat_map, zero, suc, Some, find, refl, sym, ap, ◌∙◌}
use Rattle.std.specs.Prelude.{◌==◌}
use Rattle.std.specs.List.{AllByRecursion}
use Rattle.std.proofs.lemmas.Bool.{eqb-true, ne_eqb}
use Rattle.std.proofs.lemmas.List.{append-nil}
use Rattle.board_model.specs.LinkedBoard.{Differ}
use Rattle.board_model.proofs.ListsApart.{all-unmap}
use Rattle.board_model.proofs.MessageAlls.{all-weaken, all-with}

-- at most one passes
abbrev pub AtMostOne : {A : Type 0} → (A → Bool) → List A → Type 0
AtMostOne p [] = Unit {0}
AtMostOne p (x ∷ xs) = (p x ≡ true → AllByRecursion (λ y. p y ≡ false) xs) × AtMostOne p xs

-- one that has the key, where keys differ
pub differ-one : {A : Type 0} (key : A → ℕ) (n : ℕ) (xs : List A) → Differ (map key xs) → AtMostOne (λ x. key x == n) xs
differ-one key n [] differ = tt
differ-one key n (x ∷ xs) differ = (
  λ here. all-weaken (λ y. key y ≡ key x → ⊥) (λ y. (key y == n) ≡ false) (λ y other. ne_eqb (key y) n (λ e. other (e ∙ sym (eqb-true (key x) n here)))) xs (all-unmap (λ m. m ≡ key x → ⊥) key xs differ.0),
  differ-one key n xs differ.1,
)

-- what holds of every item
pub all-any : {A : Type 0} (P : A → Type 0) → ((x : A) → P x) → (xs : List A) → AllByRecursion P xs
all-any P each [] = tt
all-any P each (x ∷ xs) = (each x, all-any P each xs)

pub empty_parts : {A : Type 0} (xs ys : List A) → xs ++ ys ≡ [] → (xs ≡ []) × (ys ≡ [])
empty_parts [] ys e = (refl, e)
empty_parts (x ∷ xs) ys e = absurd cc

module _ {A B : Type 0} (f : A → List B) where
  pub joined-none : (xs : List A) → AllByRecursion (λ x. f x ≡ []) xs → flat_map f xs ≡ []
  joined-none [] all = refl
  joined-none (x ∷ xs) all = ap (λ ys. ys ++ flat_map f xs) all.0 ∙ joined-none xs all.1

  -- where all are empty, so are those that are left
  pub joined-dropped : (k : ℕ) (xs : List A) → flat_map f xs ≡ [] → flat_map f (drop k xs) ≡ []
  joined-dropped zero xs none = none
  joined-dropped (suc k) [] none = refl
  joined-dropped (suc k) (x ∷ xs) none = joined-dropped k xs (empty_parts (f x) (flat_map f xs) none).1

  module _ (p : A → Bool) where
    abbrev EmptyBut : A → Type 0
    EmptyBut x = p x ≡ false → f x ≡ []

    -- the joined list is that of the one that passes
    pub joined-one : (xs : List A) (x : A) → AtMostOne p xs → AllByRecursion (λ y. p y ≡ false → f y ≡ []) xs → find p xs ≡ Some x → flat_map f xs ≡ f x
    joined-one [] x one empty found = absurd cc
    joined-one (y ∷ ys) x one empty found = go (p y) refl found (λ later. joined-one ys x one.1 empty.1 later)
      where
        go : (b : Bool) → p y ≡ b → cond b (Some y) (find p ys) ≡ Some x → (find p ys ≡ Some x → flat_map f ys ≡ f x) → f y ++ flat_map f ys ≡ f x
        go true here is rest_is =
            let same : y ≡ x = cc in
            let rest : flat_map f ys ≡ [] = joined-none ys (all-with (λ z. p z ≡ false) EmptyBut (λ z. f z ≡ []) (λ z off none. none off) ys (one.0 here) empty.1) in
            ap (λ zs. f y ++ zs) rest ∙ (append-nil (f y) ∙ ap f same)
        go false other is rest_is = ap (λ zs. zs ++ flat_map f ys) (empty.0 other) ∙ rest_is is
