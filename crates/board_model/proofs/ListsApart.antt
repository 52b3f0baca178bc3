-- Lists whose items have keys of their own: each is found by its key, and stays so where items are put in their places.
use Rattle.std.proofs.Common.{◌≡◌, ℕ, cond, List, [], ◌∷◌, ◌++◌, map, flat_map, Some, find, refl, sym, ap, ◌∙◌, eq-eqb, subst}
use Rattle.std.specs.Prelude.{◌==◌}
use Rattle.std.specs.List.{AllByRecursion}
use Rattle.std.proofs.lemmas.Bool.{ne_eqb}
use Rattle.std.proofs.lemmas.List.{map-append}
use Rattle.board_model.specs.LinkedBoard.{Differ}
use Rattle.board_model.proofs.MessageAlls.{all-append, all-parts, all-with}

pub all-map : {A B : Type 0} (P : B → Type 0) (f : A → B) (xs : List A) → AllByRecursion (λ x. P (f x)) xs → AllByRecursion P (map f xs)
all-map P f [] all = tt
all-map P f (x ∷ xs) all = (all.0, all-map P f xs all.1)

pub all-unmap : {A B : Type 0} (P : B → Type 0) (f : A → B) (xs : List A) → AllByRecursion P (map f xs) → AllByRecursion (λ x. P (f x)) xs
all-unmap P f [] all = tt
all-unmap P f (x ∷ xs) all = (all.0, all-unmap P f xs all.1)

pub all-joined : {A B : Type 0} (P : B → Type 0) (f : A → List B) (xs : List A) → AllByRecursion (λ x. AllByRecursion P (f x)) xs → AllByRecursion P (flat_map f xs)
all-joined P f [] all = tt
all-joined P f (x ∷ xs) all = all-append P (f x) (flat_map f xs) all.0 (all-joined P f xs all.1)

-- the first item with the key of an item is that item
pub differ-found : {A : Type 0} (key : A → ℕ) (xs : List A) → Differ (map key xs) → AllByRecursion (λ x. find (λ y. key y == key x) xs ≡ Some x) xs
differ-found key [] differ = tt
differ-found {A} key (x ∷ xs) differ = (
  ap (λ b. cond b (Some x) (find (λ y. key y == key x) xs)) (eq-eqb (key x) (key x) refl),
  all-with (λ (y : A). key y ≡ key x → ⊥) (λ y. find (λ z. key z == key y) xs ≡ Some y) (λ y. find (λ z. key z == key y) (x ∷ xs) ≡ Some y)
      (λ y other found. ap (λ b. cond b (Some x) (find (λ z. key z == key y) xs)) (ne_eqb (key x) (key y) (λ e. other (sym e))) ∙ found) xs
      (all-unmap (λ m. m ≡ key x → ⊥) key xs differ.0) (differ-found key xs differ.1),
)

-- ---- an item put in its place

pub record IsPlaced {A : Type 0} (x : A) (ys zs : List A) : Type 0 where
  pub front : List A
  pub back : List A
  pub before : ys ≡ front ++ back
  pub after : zs ≡ front ++ x ∷ back

-- behind one that stays first
pub placed_later : {A : Type 0} (x y : A) (ys zs : List A) → IsPlaced x ys zs → IsPlaced x (y ∷ ys) (y ∷ zs)
placed_later x y ys zs h = record { front = y ∷ h.front; back = h.back; before = ap (λ (us : List _). y ∷ us) h.before; after = ap (λ (us : List _). y ∷ us) h.after }

all_between : (P : ℕ → Type 0) (front back : List ℕ) (n : ℕ) → P n → AllByRecursion P (front ++ back) → AllByRecursion P (front ++ n ∷ back)
all_between P front back n here all =
    let parts = all-parts P front back all in
    all-append P front (n ∷ back) parts.0 (here, parts.1)

differ_between : (front back : List ℕ) (n : ℕ) → AllByRecursion (λ m. m ≡ n → ⊥) (front ++ back) → Differ (front ++ back) → Differ (front ++ n ∷ back)
differ_between [] back n apart differ = (apart, differ)
differ_between (m ∷ front) back n apart differ =
    (all_between (λ k. k ≡ m → ⊥) front back n (λ e. apart.0 (sym e)) differ.0, differ_between front back n apart.1 differ.1)

module _ {A : Type 0} (key : A → ℕ) (x : A) (ys zs : List A) (placed : IsPlaced x ys zs) where
  keys_before : map key ys ≡ map key placed.front ++ map key placed.back
  keys_before = ap (map key) placed.before ∙ map-append key placed.front placed.back

  keys_after : map key zs ≡ map key placed.front ++ key x ∷ map key placed.back
  keys_after = ap (map key) placed.after ∙ map-append key placed.front (x ∷ placed.back)

  pub all-placed : (P : ℕ → Type 0) → P (key x) → AllByRecursion P (map key ys) → AllByRecursion P (map key zs)
  all-placed P here all = subst (AllByRecursion P) (sym keys_after) (all_between P (map key placed.front) (map key placed.back) (key x) here (subst (AllByRecursion P) keys_before all))

  pub differ-placed : AllByRecursion (λ m. m ≡ key x → ⊥) (map key ys) → Differ (map key ys) → Differ (map key zs)
  differ-placed apart differ =
      subst Differ (sym keys_after) (differ_between (map key placed.front) (map key placed.back) (key x) (subst (AllByRecursion (λ m. m ≡ key x → ⊥)) keys_before apart) (subst Differ keys_before differ))
