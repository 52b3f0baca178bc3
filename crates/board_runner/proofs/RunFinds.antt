-- Lists of items whose numbers differ, with the item at a place in the place of another of its number.
use Rattle.std.proofs.Common.{◌≡◌, ℕ, zero, suc, Bool, true, cond, List, [], ◌∷◌, map, Option, Some, None, find, slice_get, slice_set, is_some, refl, sym, ap, ap₂, ◌∙◌, subst, inl, inr, eq-eqb, ne_eqb}
use Rattle.std.specs.Prelude.{◌==◌}
use Rattle.std.specs.List.{AllByRecursion}
use Rattle.std.proofs.lemmas.Bool.Decides.{eqb_tells}
use Rattle.board_model.specs.LinkedBoard.{Differ}

-- an option that is told has its item
pub some_item : {A : Type 0} (o : Option A) → is_some o ≡ true → (x : A) × (o ≡ Some x)
some_item None e = absurd cc
some_item (Some x) e = (x, refl)

pub some_same : {A : Type 0} (o : Option A) (x y : A) → o ≡ Some x → o ≡ Some y → x ≡ y
some_same o x y e f = cc

pub mapped-at : {A B : Type 0} (f : A → B) (xs : List A) (i : ℕ) (x : A) → slice_get xs i ≡ Some x → slice_get (map f xs) i ≡ Some (f x)
mapped-at f [] i x at = absurd cc
mapped-at f (y ∷ ys) zero x at = let same : y ≡ x = cc in ap (λ (z : _). Some (f z)) same
mapped-at f (y ∷ ys) (suc i) x at = mapped-at f ys i x at

-- each keeps what the item at the place keeps
pub map-replaced : {A B : Type 0} (f : A → B) (xs : List A) (i : ℕ) (x x' : A) → slice_get xs i ≡ Some x → f x' ≡ f x → map f (slice_set xs i x') ≡ map f xs
map-replaced f [] i x x' at same = refl
map-replaced {A} {B} f (y ∷ ys) zero x x' at same = let is : y ≡ x = cc in ap (λ (z : B). z ∷ map f ys) (same ∙ ap f (sym is))
map-replaced {A} {B} f (y ∷ ys) (suc i) x x' at same = ap (λ (zs : List B). f y ∷ zs) (map-replaced f ys i x x' at same)

pub all-every : {A : Type 0} (P : A → Type 0) → ((x : A) → P x) → (xs : List A) → AllByRecursion P xs
all-every P each [] = tt
all-every P each (x ∷ xs) = (each x, all-every P each xs)

module _ {A : Type 0} (key : A → ℕ) where
  -- the item at a place has another number than each before it
  behind : (ys : List A) (i : ℕ) (x : A) (m : ℕ) → AllByRecursion (λ k. k ≡ m → ⊥) (map key ys) → slice_get ys i ≡ Some x → key x ≡ m → ⊥
  behind [] i x m others at e = cc
  behind (y ∷ ys) zero x m others at e = let is : y ≡ x = cc in others.0 (ap key is ∙ e)
  behind (y ∷ ys) (suc i) x m others at e = behind ys i x m others.1 at e

  pub find-at : (xs : List A) (i : ℕ) (x : A) (n : ℕ) → Differ (map key xs) → slice_get xs i ≡ Some x → key x ≡ n → find (λ y. key y == n) xs ≡ Some x
  find-at [] i x n differ at e = absurd cc
  find-at (y ∷ ys) zero x n differ at e =
      let is : y ≡ x = cc in
      ap (λ (b : Bool). cond b (Some y) (find (λ z. key z == n) ys)) (eq-eqb (key y) n (ap key is ∙ e)) ∙ ap (λ (z : A). Some z) is
  find-at (y ∷ ys) (suc i) x n differ at e =
      ap (λ (b : Bool). cond b (Some y) (find (λ z. key z == n) ys)) (ne_eqb (key y) n (λ h. behind ys i x (key y) differ.0 at (e ∙ sym h))) ∙ find-at ys i x n differ.1 at e

  -- what is found after the item is replaced by one of its number
  pub find-replaced : (xs : List A) (i : ℕ) (x x' : A) (n m : ℕ) → Differ (map key xs) → slice_get xs i ≡ Some x → key x ≡ n → key x' ≡ n → find (λ y. key y == m) (slice_set xs i x') ≡ cond (m == n) (Some x') (find (λ y. key y == m) xs)
  find-replaced [] i x x' n m differ at e f = absurd cc
  find-replaced (y ∷ ys) zero x x' n m differ at e f = elim (eqb_tells m n) [
    | inl same ↦
        ap (λ (b : Bool). cond b (Some x') (find (λ z. key z == m) ys)) (eq-eqb (key x') m (f ∙ sym same.1))
        ∙ sym (ap (λ (b : Bool). cond b (Some x') (find (λ z. key z == m) (y ∷ ys))) same.0)
    | inr other ↦
        let is : y ≡ x = cc in
        ap (λ (b : Bool). cond b (Some x') (find (λ z. key z == m) ys)) (ne_eqb (key x') m (λ h. other.1 (sym h ∙ f)))
        ∙ sym (ap (λ (b : Bool). cond b (Some y) (find (λ z. key z == m) ys)) (ne_eqb (key y) m (λ h. other.1 (sym h ∙ ap key is ∙ e))))
        ∙ sym (ap (λ (b : Bool). cond b (Some x') (find (λ z. key z == m) (y ∷ ys))) other.0)
  ]
  find-replaced (y ∷ ys) (suc i) x x' n m differ at e f =
      ap (λ (o : Option A). cond (key y == m) (Some y) o) (find-replaced ys i x x' n m differ.1 at e f) ∙ elim (eqb_tells m n) [
        | inl same ↦
            ap (λ (b : Bool). cond b (Some y) (cond (m == n) (Some x') (find (λ z. key z == m) ys))) (ne_eqb (key y) m (λ h. behind ys i x (key y) differ.0 at (e ∙ sym same.1 ∙ sym h)))
            ∙ ap (λ (b : Bool). cond b (Some x') (find (λ z. key z == m) ys)) same.0 ∙ sym (ap (λ (b : Bool). cond b (Some x') (find (λ z. key z == m) (y ∷ ys))) same.0)
        | inr other ↦
            ap (λ (b : Bool). cond (key y == m) (Some y) (cond b (Some x') (find (λ z. key z == m) ys))) other.0 ∙ sym (ap (λ (b : Bool). cond b (Some x') (find (λ z. key z == m) (y ∷ ys))) other.0)
      ]

  -- a change of the items of one number is one of the item at its place
  pub map-at : (f : A → A) (xs : List A) (i : ℕ) (x : A) (n : ℕ) → Differ (map key xs) → slice_get xs i ≡ Some x → key x ≡ n → map (λ y. cond (key y == n) (f y) y) xs ≡ slice_set xs i (f x)
  map-at f [] i x n differ at e = absurd cc
  map-at f (y ∷ ys) zero x n differ at e =
      let is : y ≡ x = cc in
      let here : key y ≡ n = ap key is ∙ e in
      ap₂ (λ (z : A) (zs : List A). z ∷ zs) (ap (λ (b : Bool). cond b (f y) y) (eq-eqb (key y) n here) ∙ ap f is)
      (others ys (subst (λ (m : ℕ). AllByRecursion (λ k. k ≡ m → ⊥) (map key ys)) here differ.0))
    where
      others : (zs : List A) → AllByRecursion (λ k. k ≡ n → ⊥) (map key zs) → map (λ z. cond (key z == n) (f z) z) zs ≡ zs
      others [] apart = refl
      others (z ∷ zs) apart = ap₂ (λ (u : A) (us : List A). u ∷ us) (ap (λ (b : Bool). cond b (f z) z) (ne_eqb (key z) n apart.0)) (others zs apart.1)
  map-at f (y ∷ ys) (suc i) x n differ at e =
      ap₂ (λ (z : A) (zs : List A). z ∷ zs) (ap (λ (b : Bool). cond b (f y) y) (ne_eqb (key y) n (λ h. behind ys i x (key y) differ.0 at (e ∙ sym h)))) (map-at f ys i x n differ.1 at e)
