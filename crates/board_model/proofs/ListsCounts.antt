-- Counts over lists: where a place is, one item changed among joined lists, the best item taken out.
use Rattle.std.proofs.Common.{◌≡◌, ℕ, zero, suc, ◌+◌, Bool, true, false, cond, List, [], ◌∷◌, ◌++◌, length, map, Option, Some, None, is_some, count_by, flat_map, position, slice_get, find, option_and_then, option_to_list, refl, sym, ap, ◌∙◌, arith}
use Rattle.std.specs.List.{position_from, AllByRecursion}
use Rattle.std.proofs.lemmas.Iterator.Adapters.{position_from-zero}
use Rattle.std.proofs.lemmas.List.Sums.{sum_by-cons, sum_by-append}
use Rattle.board_model.specs.Lists.{changed_at, changed, without_at, without}

-- one, where the test passes
abbrev pub one_if : Bool → ℕ
one_if b = cond b 1 0

pub count-cons : {A : Type 0} (w : A → Bool) (x : A) (xs : List A) → count_by w (x ∷ xs) ≡ one_if (w x) + count_by w xs
count-cons w x xs = sum_by-cons (λ y. cond (w y) 1 0) x xs

pub count-append : {A : Type 0} (w : A → Bool) (xs ys : List A) → count_by w (xs ++ ys) ≡ count_by w xs + count_by w ys
count-append w xs ys = sum_by-append (λ y. cond (w y) 1 0) xs ys

pub count-every : {A : Type 0} (xs : List A) → count_by (λ (x : A). true) xs ≡ length xs
count-every [] = refl
count-every {A} (x ∷ xs) = omega (arith, count-cons (λ (y : A). true) x xs, count-every xs)

-- ---- places

position_from-tells : {A : Type 0} (p : A → Bool) (k : ℕ) (xs : List A) (i : ℕ) → position_from p k xs ≡ Some i → (j : ℕ) × (x : A) × (i ≡ k + j) × (slice_get xs j ≡ Some x) × (p x ≡ true)
position_from-tells p k [] i e = absurd cc
position_from-tells {A} p k (x ∷ xs) i e = go (p x) refl (λ h. position_from-tells p (k + 1) xs i h) e
  where
    go : (b : Bool) → p x ≡ b → (position_from p (k + 1) xs ≡ Some i → (j : ℕ) × (y : A) × (i ≡ k + 1 + j) × (slice_get xs j ≡ Some y) × (p y ≡ true)) → cond b (Some k) (position_from p (k + 1) xs) ≡ Some i → (j : ℕ) × (y : A) × (i ≡ k + j) × (slice_get (x ∷ xs) j ≡ Some y) × (p y ≡ true)
    go true here later h = let same : k ≡ i = cc in (zero, x, omega arith, refl, here)
    go false here later h = let t = later h in (suc t.0, t.1, omega arith, t.3, t.4)

-- the place at which a test first passes is one of the list, and passes
pub position-tells : {A : Type 0} (p : A → Bool) (xs : List A) (i : ℕ) → position p xs ≡ Some i → (x : A) × (slice_get xs i ≡ Some x) × (p x ≡ true)
position-tells p xs i e =
    let t = position_from-tells p 0 xs i (sym (position_from-zero p xs) ∙ e) in
    let same : i ≡ t.0 = omega arith in
    (t.1, ap (slice_get xs) same ∙ t.3, t.4)

pub some_place : (o : Option ℕ) → is_some o ≡ true → (i : ℕ) × (o ≡ Some i)
some_place None e = absurd cc
some_place (Some i) e = (i, refl)

-- a search that finds nothing fails at each item
pub find-none : {A : Type 0} (p : A → Bool) (xs : List A) → find p xs ≡ None → AllByRecursion (λ x. p x ≡ false) xs
find-none p [] e = tt
find-none {A} p (x ∷ xs) e = go (p x) refl (λ h. find-none p xs h) e
  where
    go : (b : Bool) → p x ≡ b → (find p xs ≡ None → AllByRecursion (λ y. p y ≡ false) xs) → cond b (Some x) (find p xs) ≡ None → (p x ≡ false) × AllByRecursion (λ y. p y ≡ false) xs
    go true here later h = absurd cc
    go false here later h = (here, later h)

-- ---- one item changed

-- one of the joined lists changes, by what its count says
pub count-changed_at : {E I : Type 0} (w : I → Bool) (q : E → List I) (f : E → E) (a b i : ℕ) (es : List E) (e : E) → slice_get es i ≡ Some e → ((x : E) → slice_get es i ≡ Some x → count_by w (q (f x)) + b ≡ count_by w (q x) + a) → count_by w (flat_map q (changed_at f i es)) + b ≡ count_by w (flat_map q es) + a
count-changed_at w q f a b i [] e at h = absurd cc
count-changed_at w q f a b zero (x ∷ es) e at h =
    omega (arith, h x refl, count-append w (q (f x)) (flat_map q es), count-append w (q x) (flat_map q es))
count-changed_at w q f a b (suc i) (x ∷ es) e at h =
    omega (arith, count-changed_at w q f a b i es e at (λ y p. h y p), count-append w (q x) (flat_map q (changed_at f i es)), count-append w (q x) (flat_map q es))

-- an item taken out
pub count-without_at : {A : Type 0} (w : A → Bool) (i : ℕ) (xs : List A) → count_by w (without_at i xs) + count_by w (option_to_list (slice_get xs i)) ≡ count_by w xs
count-without_at w i [] = refl
count-without_at w zero (x ∷ xs) = omega (arith, count-cons w x xs, count-cons w x [])
count-without_at w (suc i) (x ∷ xs) = omega (arith, count-cons w x xs, count-cons w x (without_at i xs), count-without_at w i xs)

pub count-without : {A : Type 0} (w : A → Bool) (o : Option ℕ) (xs : List A) → count_by w (without o xs) + count_by w (option_to_list (option_and_then (λ i. slice_get xs i) o)) ≡ count_by w xs
count-without w None xs = omega arith
count-without w (Some i) xs = count-without_at w i xs

-- ---- a part that is kept when an item changes

pub map-changed_at : {E X : Type 0} (g : E → X) (f : E → E) → ((x : E) → g (f x) ≡ g x) → (i : ℕ) (es : List E) → map g (changed_at f i es) ≡ map g es
map-changed_at g f same i [] = refl
map-changed_at g f same zero (x ∷ es) = ap (λ y. y ∷ map g es) (same x)
map-changed_at g f same (suc i) (x ∷ es) = ap (λ ys. g x ∷ ys) (map-changed_at g f same i es)

pub map-changed : {E X : Type 0} (g : E → X) (f : E → E) → ((x : E) → g (f x) ≡ g x) → (o : Option ℕ) (es : List E) → map g (changed f o es) ≡ map g es
map-changed g f same None es = refl
map-changed g f same (Some i) es = map-changed_at g f same i es
