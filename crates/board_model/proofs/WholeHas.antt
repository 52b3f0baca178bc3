-- Lists that have such an item: in lists put together, and found by a test or a key.
use Rattle.std.proofs.Common.{◌≡◌, ◌⊎◌, ℕ, zero, suc, ◌<◌, Bool, true, false, cond, List, [], ◌∷◌, ◌++◌, length, map, Some, Contains, find, flat_map, get_or, refl, sym, ap, ◌∙◌, inl, inr, arith, eq-eqb}
use Rattle.std.specs.Prelude.{◌==◌}
use Rattle.std.specs.List.{AllByRecursion}
use Rattle.std.proofs.lemmas.Bool.{ne_eqb}
use Rattle.board_model.specs.LinkedBoard.{Differ}

-- ---- lists that have an item

-- some item of the list is such
abbrev pub Has : {A : Type 0} → (A → Type 0) → List A → Type 0
Has P [] = ⊥
Has P (x ∷ xs) = P x ⊎ Has P xs

pub has-weaken : {A : Type 0} (P Q : A → Type 0) → ((x : A) → P x → Q x) → (xs : List A) → Has P xs → Has Q xs
has-weaken P Q weaker [] h = h
has-weaken P Q weaker (x ∷ xs) (inl h) = inl (weaker x h)
has-weaken P Q weaker (x ∷ xs) (inr h) = inr (has-weaken P Q weaker xs h)

pub has-with : {A : Type 0} (P Q R : A → Type 0) → ((x : A) → P x → Q x → R x) → (xs : List A) → AllByRecursion P xs → Has Q xs → Has R xs
has-with P Q R both [] all h = h
has-with P Q R both (x ∷ xs) all (inl h) = inl (both x all.0 h)
has-with P Q R both (x ∷ xs) all (inr h) = inr (has-with P Q R both xs all.1 h)

-- what follows from any item of all and of some
pub has-gives : {A : Type 0} (P Q : A → Type 0) (R : Type 0) → ((x : A) → P x → Q x → R) → (xs : List A) → AllByRecursion P xs → Has Q xs → R
has-gives P Q R both [] all h = absurd h
has-gives P Q R both (x ∷ xs) all (inl h) = both x all.0 h
has-gives P Q R both (x ∷ xs) all (inr h) = has-gives P Q R both xs all.1 h

has-left : {A : Type 0} (P : A → Type 0) (xs ys : List A) → Has P xs → Has P (xs ++ ys)
has-left P [] ys h = absurd h
has-left P (x ∷ xs) ys (inl h) = inl h
has-left P (x ∷ xs) ys (inr h) = inr (has-left P xs ys h)

has-right : {A : Type 0} (P : A → Type 0) (xs ys : List A) → Has P ys → Has P (xs ++ ys)
has-right P [] ys h = h
has-right P (x ∷ xs) ys h = inr (has-right P xs ys h)

pub has-map : {A B : Type 0} (P : B → Type 0) (f : A → B) (xs : List A) → Has (λ x. P (f x)) xs → Has P (map f xs)
has-map P f [] h = h
has-map P f (x ∷ xs) (inl h) = inl h
has-map P f (x ∷ xs) (inr h) = inr (has-map P f xs h)

pub has-joined : {A B : Type 0} (P : B → Type 0) (f : A → List B) (xs : List A) → Has (λ x. Has P (f x)) xs → Has P (flat_map f xs)
has-joined P f [] h = h
has-joined P f (x ∷ xs) (inl h) = has-left P (f x) (flat_map f xs) h
has-joined P f (x ∷ xs) (inr h) = has-right P (f x) (flat_map f xs) (has-joined P f xs h)

-- each item is one of the list
pub has-each : {A : Type 0} (xs : List A) → AllByRecursion (λ x. Has (λ y. y ≡ x) xs) xs
has-each {A} xs = go xs (λ x h. h)
  where
    go : (ys : List A) → ((x : A) → Has (λ y. y ≡ x) ys → Has (λ y. y ≡ x) xs) → AllByRecursion (λ x. Has (λ y. y ≡ x) xs) ys
    go [] within = tt
    go (y ∷ ys) within = (within y (inl refl), go ys (λ x h. within x (inr h)))

pub has-contained : {A : Type 0} (key : A → ℕ) (xs : List A) (n : ℕ) → Contains (map key xs) n → Has (λ x. key x ≡ n) xs
has-contained key xs n c = go xs c.0 c.1 c.2
  where
    go : (ys : List _) (k : ℕ) → k < length (map key ys) → get_or (map key ys) k n ≡ n → Has (λ x. key x ≡ n) ys
    go [] k less at = absurd (omega (arith, less))
    go (y ∷ ys) zero less at = inl at
    go (y ∷ ys) (suc k) less at = inr (go ys k (omega (arith, less)) at)

-- an item with a key is found by it, and where keys differ it is the one
pub has-found : {A : Type 0} (p : A → Bool) (xs : List A) → Has (λ x. p x ≡ true) xs → (x : A) × (find p xs ≡ Some x)
has-found p [] h = absurd h
has-found {A} p (y ∷ ys) h = go (p y) refl h (has-found p ys)
  where
    go : (b : Bool) → p y ≡ b → (p y ≡ true) ⊎ Has (λ x. p x ≡ true) ys → (Has (λ x. p x ≡ true) ys → (x : A) × (find p ys ≡ Some x)) → (x : A) × (cond b (Some y) (find p ys) ≡ Some x)
    go true here at later = (y, refl)
    go false other (inl at) later = absurd (cc)
    go false other (inr at) later = later at

pub has-differ : {A : Type 0} (key : A → ℕ) (Q : A → Type 0) (xs : List A) (n : ℕ) → Differ (map key xs) → Has (λ x. (key x ≡ n) × Q x) xs → (x : A) × (find (λ y. key y == n) xs ≡ Some x) × Q x
has-differ key Q [] n differ h = absurd h
has-differ {A} key Q (y ∷ ys) n differ (inl h) = (y, ap (λ b. cond b (Some y) (find (λ x. key x == n) ys)) (eq-eqb (key y) n h.0), h.1)
has-differ {A} key Q (y ∷ ys) n differ (inr h) =
    let later = has-differ key Q ys n differ.1 h in
    let other : key y ≡ n → ⊥ = λ e. has-gives (λ m. m ≡ key y → ⊥) (λ m. m ≡ n) ⊥ (λ m apart is. apart (is ∙ sym e)) (map key ys) differ.0 (has-map (λ m. m ≡ n) key ys (has-weaken (λ x. (key x ≡ n) × Q x) (λ x. key x ≡ n) (λ x at. at.0) ys h)) in
    (later.0, ap (λ b. cond b (Some y) (find (λ x. key x == n) ys)) (ne_eqb (key y) n other) ∙ later.1, later.2)
