-- What holds of every item of a list, through searches, filters, joins and changes.
use Rattle.std.proofs.Common.{◌≡◌, ℕ, zero, suc, Bool, true, false, cond, List, [], ◌∷◌, ◌++◌, drop, Option, Some, None, refl, subst}
use Rattle.std.specs.Prelude.{find, filter, slice_get}
use Rattle.std.specs.List.{AllByRecursion}
use Rattle.std.proofs.lemmas.Bool.{cond_both}
use Rattle.board_model.specs.Lists.{changed_at, changed, without_at, without}
use Rattle.board_model.proofs.MessageLists.{changed_first, without_first}

none_past : {A : Type 0} (P : Type 0) (b : Bool) (x : A) (o : Option A) → (o ≡ None → P) → cond b (Some x) o ≡ None → (b ≡ false) × P
none_past P true x o rest none = absurd cc
none_past P false x o rest none = (refl, rest none)

-- where none is found, none passes
pub none-passes : {A : Type 0} (p : A → Bool) (xs : List A) → find p xs ≡ None → AllByRecursion (λ x. p x ≡ false) xs
none-passes p [] none = tt
none-passes p (x ∷ xs) none = none_past (AllByRecursion (λ y. p y ≡ false) xs) (p x) x (find p xs) (λ e. none-passes p xs e) none

pub all-at : {A : Type 0} (P : A → Type 0) (xs : List A) (i : ℕ) (x : A) → AllByRecursion P xs → slice_get xs i ≡ Some x → P x
all-at P [] i x all at = absurd cc
all-at P (y ∷ ys) zero x all at = let same : y ≡ x = cc in subst P same all.0
all-at P (y ∷ ys) (suc i) x all at = all-at P ys i x all.1 at

pub all-filter : {A : Type 0} (P : A → Type 0) (p : A → Bool) (xs : List A) → AllByRecursion P xs → AllByRecursion P (filter p xs)
all-filter P p [] all = tt
all-filter P p (x ∷ xs) all = cond_both (p x) (x ∷ filter p xs) (filter p xs) (λ ys. AllByRecursion P ys) (λ it. (all.0, all-filter P p xs all.1)) (λ not_it. all-filter P p xs all.1)

pub all-append : {A : Type 0} (P : A → Type 0) (xs ys : List A) → AllByRecursion P xs → AllByRecursion P ys → AllByRecursion P (xs ++ ys)
all-append P [] ys front back = back
all-append P (x ∷ xs) ys front back = (front.0, all-append P xs ys front.1 back)

pub all-parts : {A : Type 0} (P : A → Type 0) (xs ys : List A) → AllByRecursion P (xs ++ ys) → AllByRecursion P xs × AllByRecursion P ys
all-parts P [] ys all = (tt, all)
all-parts P (x ∷ xs) ys all = let rest = all-parts P xs ys all.1 in ((all.0, rest.0), rest.1)

pub all-weaken : {A : Type 0} (P Q : A → Type 0) (weaker : (x : A) → P x → Q x) (xs : List A) → AllByRecursion P xs → AllByRecursion Q xs
all-weaken P Q weaker [] ps = tt
all-weaken P Q weaker (x ∷ xs) ps = (weaker x ps.0, all-weaken P Q weaker xs ps.1)

pub all-with : {A : Type 0} (P Q R : A → Type 0) (both : (x : A) → P x → Q x → R x) (xs : List A) → AllByRecursion P xs → AllByRecursion Q xs → AllByRecursion R xs
all-with P Q R both [] ps qs = tt
all-with P Q R both (x ∷ xs) ps qs = (both x ps.0 qs.0, all-with P Q R both xs ps.1 qs.1)

-- ---- the item that is found

found_here : {A : Type 0} (P : A → Type 0) (b : Bool) (x y : A) (o : Option A) → P x → (o ≡ Some y → P y) → cond b (Some x) o ≡ Some y → P y
found_here P true x y o here rest found = let same : x ≡ y = cc in subst P same here
found_here P false x y o here rest found = rest found

pub all-found : {A : Type 0} (P : A → Type 0) (p : A → Bool) (xs : List A) (y : A) → AllByRecursion P xs → find p xs ≡ Some y → P y
all-found P p [] y all found = absurd cc
all-found P p (x ∷ xs) y all found = found_here P (p x) x y (find p xs) all.0 (λ rest. all-found P p xs y all.1 rest) found

pub found-passes : {A : Type 0} (p : A → Bool) (xs : List A) (y : A) → find p xs ≡ Some y → p y ≡ true
found-passes p [] y found = absurd cc
found-passes p (x ∷ xs) y found =
    elim (p x) as (λ b. p x ≡ b → cond b (Some x) (find p xs) ≡ Some y → p y ≡ true)
    [ true ↦ λ at some. let same : x ≡ y = cc in subst (λ z. p z ≡ true) same at | false ↦ λ at rest. found-passes p xs y rest ] refl found

-- where none passes, none is found
pub none-found : {A : Type 0} (p : A → Bool) (xs : List A) → AllByRecursion (λ x. p x ≡ false) xs → find p xs ≡ None
none-found p [] all = refl
none-found p (x ∷ xs) all = rw all.0 (none-found p xs all.1)

-- ---- changes

-- the first that passes is changed
pub all-changed-first : {A : Type 0} (P : A → Type 0) (p : A → Bool) (f : A → A) (xs : List A) → AllByRecursion P xs → ((x : A) → find p xs ≡ Some x → P x → P (f x)) → AllByRecursion P (changed_first p f xs)
all-changed-first P p f [] all keeps = tt
all-changed-first {A = A} P p f (x ∷ xs) all keeps =
    elim (p x) as (λ b. ((y : A) → cond b (Some x) (find p xs) ≡ Some y → P y → P (f y)) → AllByRecursion P (cond b (f x ∷ xs) (x ∷ changed_first p f xs)))
    [ true ↦ λ keep. (keep x refl all.0, all.1) | false ↦ λ keep. (all.0, all-changed-first P p f xs all.1 keep) ] keeps

all_changed_at : {A : Type 0} (P : A → Type 0) (f : A → A) (keeps : (x : A) → P x → P (f x)) (i : ℕ) (xs : List A) → AllByRecursion P xs → AllByRecursion P (changed_at f i xs)
all_changed_at P f keeps i [] all = tt
all_changed_at P f keeps zero (x ∷ xs) all = (keeps x all.0, all.1)
all_changed_at P f keeps (suc i) (x ∷ xs) all = (all.0, all_changed_at P f keeps i xs all.1)

pub all-changed : {A : Type 0} (P : A → Type 0) (f : A → A) (keeps : (x : A) → P x → P (f x)) (o : Option ℕ) (xs : List A) → AllByRecursion P xs → AllByRecursion P (changed f o xs)
all-changed P f keeps None xs all = all
all-changed P f keeps (Some i) xs all = all_changed_at P f keeps i xs all

all_without_at : {A : Type 0} (P : A → Type 0) (i : ℕ) (xs : List A) → AllByRecursion P xs → AllByRecursion P (without_at i xs)
all_without_at P i [] all = tt
all_without_at P zero (x ∷ xs) all = all.1
all_without_at P (suc i) (x ∷ xs) all = (all.0, all_without_at P i xs all.1)

pub all-without : {A : Type 0} (P : A → Type 0) (o : Option ℕ) (xs : List A) → AllByRecursion P xs → AllByRecursion P (without o xs)
all-without P None xs all = all
all-without P (Some i) xs all = all_without_at P i xs all

-- the first that passes is left out
pub all-without-first : {A : Type 0} (P : A → Type 0) (p : A → Bool) (xs : List A) → AllByRecursion P xs → AllByRecursion P (without_first p xs)
all-without-first P p [] all = tt
all-without-first P p (x ∷ xs) all =
    cond_both (p x) xs (x ∷ without_first p xs) (λ ys. AllByRecursion P ys) (λ here. all.1) (λ other. (all.0, all-without-first P p xs all.1))

pub all-drop : {A : Type 0} (P : A → Type 0) (n : ℕ) (xs : List A) → AllByRecursion P xs → AllByRecursion P (drop n xs)
all-drop P zero xs all = all
all-drop P (suc n) [] all = tt
all-drop P (suc n) (x ∷ xs) all = all-drop P n xs all.1
