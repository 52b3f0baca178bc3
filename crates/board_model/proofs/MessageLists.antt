-- The first item of a list that passes a test, changed or left out, by recursion over the list; and what of it holds of
-- the best item of a queue.
use Rattle.std.proofs.Common.{◌≡◌, ℕ, zero, suc, ◌+◌, Bool, true, false, cond, List, [], ◌∷◌, map, Option, Some, None, refl, sym, ap, ◌∙◌, arith}
use Rattle.std.specs.Prelude.{position, find, slice_get, option_map, option_and_then, ◌==◌, is_some}
use Rattle.std.specs.List.{position_from}
use Rattle.std.proofs.lemmas.Iterator.Adapters.{position_from-zero}
pub use Rattle.board_model.specs.Lists.{changed_first, without_first}
use Rattle.board_model.specs.Lists.{changed_at, changed, without}
use Rattle.board_model.specs.Choice.{least, best, without_best}

-- ---- places

shift_cond : (b : Bool) (k : ℕ) (o : Option ℕ) → cond b (Some (suc k)) (option_map suc o) ≡ option_map suc (cond b (Some k) o)
shift_cond true k o = refl
shift_cond false k o = refl

position_from-shift : {A : Type 0} (p : A → Bool) (k : ℕ) (xs : List A) → position_from p (suc k) xs ≡ option_map suc (position_from p k xs)
position_from-shift p k [] = refl
position_from-shift p k (x ∷ xs) =
    let next : suc k + 1 ≡ suc (k + 1) = omega arith in
    let rest : position_from p (suc k + 1) xs ≡ option_map suc (position_from p (k + 1) xs) = rw next (position_from-shift p (k + 1) xs) in
    rw rest (shift_cond (p x) k (position_from p (k + 1) xs))

position_is : {A : Type 0} (p : A → Bool) (xs : List A) → position p xs ≡ position_from p 0 xs
position_is p xs = position_from-zero p xs

pub position-cons : {A : Type 0} (p : A → Bool) (x : A) (xs : List A) → position p (x ∷ xs) ≡ cond (p x) (Some 0) (option_map suc (position p xs))
position-cons p x xs =
    position_is p (x ∷ xs) ∙ ap (λ o. cond (p x) (Some 0) o) (position_from-shift p 0 xs ∙ ap (option_map suc) (sym (position_is p xs)))

changed_at_cons : {A : Type 0} (f : A → A) (b : Bool) (o : Option ℕ) (x : A) (xs : List A) → changed f (cond b (Some 0) (option_map suc o)) (x ∷ xs) ≡ cond b (f x ∷ xs) (x ∷ changed f o xs)
changed_at_cons f true o x xs = refl
changed_at_cons f false None x xs = refl
changed_at_cons f false (Some i) x xs = refl

pub changed-position : {A : Type 0} (p : A → Bool) (f : A → A) (xs : List A) → changed f (position p xs) xs ≡ changed_first p f xs
changed-position p f [] = refl
changed-position p f (x ∷ xs) =
    ap (λ o. changed f o (x ∷ xs)) (position-cons p x xs) ∙ (changed_at_cons f (p x) (position p xs) x xs ∙ ap (λ ys. cond (p x) (f x ∷ xs) (x ∷ ys)) (changed-position p f xs))

without_cons : {A : Type 0} (b : Bool) (o : Option ℕ) (x : A) (xs : List A) → without (cond b (Some 0) (option_map suc o)) (x ∷ xs) ≡ cond b xs (x ∷ without o xs)
without_cons true o x xs = refl
without_cons false None x xs = refl
without_cons false (Some i) x xs = refl

pub without-position : {A : Type 0} (p : A → Bool) (xs : List A) → without (position p xs) xs ≡ without_first p xs
without-position p [] = refl
without-position p (x ∷ xs) =
    ap (λ o. without o (x ∷ xs)) (position-cons p x xs) ∙ (without_cons (p x) (position p xs) x xs ∙ ap (λ ys. cond (p x) xs (x ∷ ys)) (without-position p xs))

get_cons : {A : Type 0} (b : Bool) (o : Option ℕ) (x : A) (xs : List A) → option_and_then (λ i. slice_get (x ∷ xs) i) (cond b (Some 0) (option_map suc o)) ≡ cond b (Some x) (option_and_then (λ i. slice_get xs i) o)
get_cons true o x xs = refl
get_cons false None x xs = refl
get_cons false (Some i) x xs = refl

pub get-position : {A : Type 0} (p : A → Bool) (xs : List A) → option_and_then (λ i. slice_get xs i) (position p xs) ≡ find p xs
get-position p [] = refl
get-position p (x ∷ xs) =
    ap (λ o. option_and_then (λ i. slice_get (x ∷ xs) i) o) (position-cons p x xs) ∙ (get_cons (p x) (position p xs) x xs ∙ ap (λ o. cond (p x) (Some x) o) (get-position p xs))

some_cons : {A : Type 0} (b : Bool) (o : Option ℕ) (x : A) (r : Option A) → is_some o ≡ is_some r → is_some (cond b (Some 0) (option_map suc o)) ≡ is_some (cond b (Some x) r)
some_cons true o x r e = refl
some_cons false None x r e = e
some_cons false (Some i) x r e = e

pub some-position : {A : Type 0} (p : A → Bool) (xs : List A) → is_some (position p xs) ≡ is_some (find p xs)
some-position p [] = refl
some-position p (x ∷ xs) = ap (λ o. is_some o) (position-cons p x xs) ∙ some_cons (p x) (position p xs) x (find p xs) (some-position p xs)

-- ---- what a change keeps

map_changed_at : {A B : Type 0} (g : A → B) (f : A → A) (same : (x : A) → g (f x) ≡ g x) (i : ℕ) (xs : List A) → map g (changed_at f i xs) ≡ map g xs
map_changed_at g f same i [] = refl
map_changed_at g f same zero (x ∷ xs) = ap (λ y. y ∷ map g xs) (same x)
map_changed_at g f same (suc i) (x ∷ xs) = ap (λ ys. g x ∷ ys) (map_changed_at g f same i xs)

pub map-changed : {A B : Type 0} (g : A → B) (f : A → A) (same : (x : A) → g (f x) ≡ g x) (o : Option ℕ) (xs : List A) → map g (changed f o xs) ≡ map g xs
map-changed g f same None xs = refl
map-changed g f same (Some i) xs = map_changed_at g f same i xs

-- ---- the best

pub best_is : {A : Type 0} (priority : A → ℕ) (q : List A) → best priority q ≡ find (λ x. priority x == least priority q) q
best_is priority q = get-position (λ x. priority x == least priority q) q

pub without_best_is : {A : Type 0} (priority : A → ℕ) (q : List A) → without_best priority q ≡ without_first (λ x. priority x == least priority q) q
without_best_is priority q = without-position (λ x. priority x == least priority q) q
