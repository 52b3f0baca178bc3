-- Lists whose items are mapped, and lists of which the first item that passes is changed.
use Rattle.std.proofs.Common.{◌≡◌, ℕ, zero, suc, Bool, true, false, ◌||◌, cond, List, [], ◌∷◌, map, Option, Some, None, refl, sym, ap, ◌∙◌}
use Rattle.std.specs.Prelude.{position, find, filter, slice_get, option_map, is_some, is_none}
use Rattle.std.specs.List.{list_any}
use Rattle.board_model.specs.Lists.{changed_first, without_first, without_at, without}
use Rattle.board_model.specs.Choice.{best, without_best}
use Rattle.board_model.proofs.MessageBest.{best-map, without_best-map}
use Rattle.board_model.proofs.MessageLists.{position-cons}

-- ---- a choice between two lists

choose_map : {A B : Type 0} (g : A → B) (b : Bool) (xs ys : List A) → cond b (map g xs) (map g ys) ≡ map g (cond b xs ys)
choose_map g true xs ys = refl
choose_map g false xs ys = refl

some_cond : {A B : Type 0} (g : A → B) (b : Bool) (x : A) (o : Option A) → cond b (Some (g x)) (option_map g o) ≡ option_map g (cond b (Some x) o)
some_cond g true x o = refl
some_cond g false x o = refl

pub is_none-map : {A B : Type 0} (g : A → B) (o : Option A) → is_none (option_map g o) ≡ is_none o
is_none-map g None = refl
is_none-map g (Some x) = refl

pub is_some-map : {A B : Type 0} (g : A → B) (o : Option A) → is_some (option_map g o) ≡ is_some o
is_some-map g None = refl
is_some-map g (Some x) = refl

pub option-map-map : {A B C : Type 0} (h : B → C) (g : A → B) (o : Option A) → option_map h (option_map g o) ≡ option_map (λ x. h (g x)) o
option-map-map h g None = refl
option-map-map h g (Some x) = refl

-- ---- mapped items, of which a test says the same

module _ {A B : Type 0} (g : A → B) (p : B → Bool) (q : A → Bool) (same : (x : A) → p (g x) ≡ q x) where
  pub find-mapped : (xs : List A) → find p (map g xs) ≡ option_map g (find q xs)
  find-mapped [] = refl
  find-mapped (x ∷ xs) = ap (λ b. cond b (Some (g x)) (find p (map g xs))) (same x) ∙ (ap (λ o. cond (q x) (Some (g x)) o) (find-mapped xs) ∙ some_cond g (q x) x (find q xs))

  pub position-mapped : (xs : List A) → position p (map g xs) ≡ position q xs
  position-mapped [] = refl
  position-mapped (x ∷ xs) =
      position-cons p (g x) (map g xs) ∙ (ap (λ b. cond b (Some 0) (option_map suc (position p (map g xs)))) (same x)
      ∙ (ap (λ o. cond (q x) (Some 0) (option_map suc o)) (position-mapped xs) ∙ sym (position-cons q x xs)))

  pub filter-mapped : (xs : List A) → filter p (map g xs) ≡ map g (filter q xs)
  filter-mapped [] = refl
  filter-mapped (x ∷ xs) = ap (λ b. cond b (g x ∷ filter p (map g xs)) (filter p (map g xs))) (same x) ∙ (ap (λ ys. cond (q x) (g x ∷ ys) ys) (filter-mapped xs) ∙ choose_map g (q x) (x ∷ filter q xs) (filter q xs))

  pub any-mapped : (xs : List A) → list_any p (map g xs) ≡ list_any q xs
  any-mapped [] = refl
  any-mapped (x ∷ xs) = ap (λ b. b || list_any p (map g xs)) (same x) ∙ ap (λ b. q x || b) (any-mapped xs)

  without_first_mapped : (xs : List A) → without_first p (map g xs) ≡ map g (without_first q xs)
  without_first_mapped [] = refl
  without_first_mapped (x ∷ xs) = ap (λ b. cond b (map g xs) (g x ∷ without_first p (map g xs))) (same x) ∙ (ap (λ ys. cond (q x) (map g xs) (g x ∷ ys)) (without_first_mapped xs) ∙ choose_map g (q x) xs (x ∷ without_first q xs))

  pub changed_first-mapped : (f : B → B) (e : A → A) → ((x : A) → f (g x) ≡ g (e x)) → (xs : List A) → changed_first p f (map g xs) ≡ map g (changed_first q e xs)
  changed_first-mapped f e alike [] = refl
  changed_first-mapped f e alike (x ∷ xs) =
      ap (λ b. cond b (f (g x) ∷ map g xs) (g x ∷ changed_first p f (map g xs))) (same x)
      ∙ (ap (λ y. cond (q x) (y ∷ map g xs) (g x ∷ changed_first p f (map g xs))) (alike x)
      ∙ (ap (λ ys. cond (q x) (g (e x) ∷ map g xs) (g x ∷ ys)) (changed_first-mapped f e alike xs) ∙ choose_map g (q x) (e x ∷ xs) (x ∷ changed_first q e xs)))

pub get-mapped : {A B : Type 0} (g : A → B) (xs : List A) (i : ℕ) → slice_get (map g xs) i ≡ option_map g (slice_get xs i)
get-mapped g [] i = refl
get-mapped g (x ∷ xs) zero = refl
get-mapped g (x ∷ xs) (suc i) = get-mapped g xs i

without_at-mapped : {A B : Type 0} (g : A → B) (i : ℕ) (xs : List A) → without_at i (map g xs) ≡ map g (without_at i xs)
without_at-mapped g i [] = refl
without_at-mapped g zero (x ∷ xs) = refl
without_at-mapped g (suc i) (x ∷ xs) = ap (λ ys. g x ∷ ys) (without_at-mapped g i xs)

pub without-mapped : {A B : Type 0} (g : A → B) (o : Option ℕ) (xs : List A) → without o (map g xs) ≡ map g (without o xs)
without-mapped g None xs = refl
without-mapped g (Some i) xs = without_at-mapped g i xs

pub map-alike : {A B : Type 0} (f g : A → B) → ((x : A) → f x ≡ g x) → (xs : List A) → map f xs ≡ map g xs
map-alike f g alike [] = refl
map-alike f g alike (x ∷ xs) = ap (λ y. y ∷ map f xs) (alike x) ∙ ap (λ ys. g x ∷ ys) (map-alike f g alike xs)

pub find-alike : {A : Type 0} (p q : A → Bool) → ((x : A) → p x ≡ q x) → (xs : List A) → find p xs ≡ find q xs
find-alike p q alike [] = refl
find-alike p q alike (x ∷ xs) = ap (λ b. cond b (Some x) (find p xs)) (alike x) ∙ ap (λ o. cond (q x) (Some x) o) (find-alike p q alike xs)

pub position-alike : {A : Type 0} (p q : A → Bool) → ((x : A) → p x ≡ q x) → (xs : List A) → position p xs ≡ position q xs
position-alike p q alike [] = refl
position-alike p q alike (x ∷ xs) =
    position-cons p x xs ∙ (ap (λ b. cond b (Some 0) (option_map suc (position p xs))) (alike x)
    ∙ (ap (λ o. cond (q x) (Some 0) (option_map suc o)) (position-alike p q alike xs) ∙ sym (position-cons q x xs)))

-- ---- the best of mapped items

pub best-mapped : {A : Type 0} (g : A → A) (priority : A → ℕ) (same : (x : A) → priority (g x) ≡ priority x) (xs : List A) → best priority (map g xs) ≡ option_map g (best priority xs)
best-mapped g priority same xs = best-map g priority priority same xs

pub without_best-mapped : {A : Type 0} (g : A → A) (priority : A → ℕ) (same : (x : A) → priority (g x) ≡ priority x) (xs : List A) → without_best priority (map g xs) ≡ map g (without_best priority xs)
without_best-mapped g priority same xs = without_best-map g priority priority same xs

-- ---- the first that passes, changed

changed_cond : {A : Type 0} (p : A → Bool) (f g : A → A) (x : A) (xs : List A) (b : Bool) → p x ≡ b → p (g x) ≡ p x → changed_first p f (changed_first p g xs) ≡ changed_first p (λ y. f (g y)) xs →
    changed_first p f (cond b (g x ∷ xs) (x ∷ changed_first p g xs)) ≡ cond b (f (g x) ∷ xs) (x ∷ changed_first p (λ y. f (g y)) xs)
changed_cond p f g x xs true here keeps rest = ap (λ b. cond b (f (g x) ∷ xs) (g x ∷ changed_first p f xs)) (keeps ∙ here)
changed_cond p f g x xs false other keeps rest = ap (λ b. cond b (f x ∷ changed_first p g xs) (x ∷ changed_first p f (changed_first p g xs))) other ∙ ap (λ ys. x ∷ ys) rest

-- two changes of the same item are one
pub changed-twice : {A : Type 0} (p : A → Bool) (f g : A → A) → ((x : A) → p (g x) ≡ p x) → (xs : List A) → changed_first p f (changed_first p g xs) ≡ changed_first p (λ x. f (g x)) xs
changed-twice p f g keeps [] = refl
changed-twice p f g keeps (x ∷ xs) = changed_cond p f g x xs (p x) refl (keeps x) (changed-twice p f g keeps xs)

-- a change goes by what it does to the item that is found
pub changed-found : {A : Type 0} (p : A → Bool) (f g : A → A) (xs : List A) → ((x : A) → find p xs ≡ Some x → f x ≡ g x) → changed_first p f xs ≡ changed_first p g xs
changed-found p f g [] alike = refl
changed-found {A = A} p f g (x ∷ xs) alike = go (p x) alike (λ same. changed-found p f g xs same)
  where
    go : (b : Bool) → ((y : A) → cond b (Some x) (find p xs) ≡ Some y → f y ≡ g y) → (((y : A) → find p xs ≡ Some y → f y ≡ g y) → changed_first p f xs ≡ changed_first p g xs) → cond b (f x ∷ xs) (x ∷ changed_first p f xs) ≡ cond b (g x ∷ xs) (x ∷ changed_first p g xs)
    go true same rest = ap (λ y. y ∷ xs) (same x refl)
    go false same rest = ap (λ ys. x ∷ ys) (rest same)

cond_same : {A : Type 0} (b : Bool) (x y z : A) → x ≡ z → y ≡ z → cond b x y ≡ z
cond_same true x y z first second = first
cond_same false x y z first second = second

pub changed-nothing : {A : Type 0} (p : A → Bool) (xs : List A) → changed_first p (λ x. x) xs ≡ xs
changed-nothing p [] = refl
changed-nothing p (x ∷ xs) = cond_same (p x) (x ∷ xs) (x ∷ changed_first p (λ y. y) xs) (x ∷ xs) refl (ap (λ ys. x ∷ ys) (changed-nothing p xs))

map_cond : {A B : Type 0} (g : A → B) (b : Bool) (xs ys : List A) (zs : List B) → map g xs ≡ zs → map g ys ≡ zs → map g (cond b xs ys) ≡ zs
map_cond g true xs ys zs first second = first
map_cond g false xs ys zs first second = second

pub map-changed_first : {A B : Type 0} (g : A → B) (p : A → Bool) (f : A → A) → ((x : A) → g (f x) ≡ g x) → (xs : List A) → map g (changed_first p f xs) ≡ map g xs
map-changed_first g p f same [] = refl
map-changed_first g p f same (x ∷ xs) =
    map_cond g (p x) (f x ∷ xs) (x ∷ changed_first p f xs) (g x ∷ map g xs) (ap (λ y. y ∷ map g xs) (same x)) (ap (λ ys. g x ∷ ys) (map-changed_first g p f same xs))

-- ---- filters

-- what a later filter passes an earlier one passed
pub filter-filter : {A : Type 0} (p q : A → Bool) → ((x : A) → p x ≡ true → q x ≡ true) → (xs : List A) → filter p (filter q xs) ≡ filter p xs
filter-filter p q wider [] = refl
filter-filter p q wider (x ∷ xs) = go (q x) (p x) refl refl (filter-filter p q wider xs)
  where
    go : (b c : Bool) → q x ≡ b → p x ≡ c → filter p (filter q xs) ≡ filter p xs → filter p (cond b (x ∷ filter q xs) (filter q xs)) ≡ cond c (x ∷ filter p xs) (filter p xs)
    go true c isq isp rest = ap (λ d. cond d (x ∷ filter p (filter q xs)) (filter p (filter q xs))) isp ∙ ap (λ ys. cond c (x ∷ ys) ys) rest
    go false true isq isp rest = let it : q x ≡ true = wider x isp in absurd cc
    go false false isq isp rest = rest

pub filter-alike : {A : Type 0} (p q : A → Bool) → ((x : A) → p x ≡ q x) → (xs : List A) → filter p xs ≡ filter q xs
filter-alike p q alike [] = refl
filter-alike p q alike (x ∷ xs) = ap (λ b. cond b (x ∷ filter p xs) (filter p xs)) (alike x) ∙ ap (λ ys. cond (q x) (x ∷ ys) ys) (filter-alike p q alike xs)

-- one waits where one is found
pub any-found : {A : Type 0} (p : A → Bool) (xs : List A) → list_any p xs ≡ is_some (find p xs)
any-found p [] = refl
any-found p (x ∷ xs) = go (p x) (any-found p xs)
  where
    go : (b : Bool) → list_any p xs ≡ is_some (find p xs) → (b || list_any p xs) ≡ is_some (cond b (Some x) (find p xs))
    go true rest = refl
    go false rest = rest

-- the item that is found is changed
pub found-changed : {A : Type 0} (p : A → Bool) (f : A → A) → ((x : A) → p (f x) ≡ p x) → (xs : List A) → find p (changed_first p f xs) ≡ option_map f (find p xs)
found-changed p f keeps [] = refl
found-changed p f keeps (x ∷ xs) = go (p x) refl (found-changed p f keeps xs)
  where
    go : (b : Bool) → p x ≡ b → find p (changed_first p f xs) ≡ option_map f (find p xs) → find p (cond b (f x ∷ xs) (x ∷ changed_first p f xs)) ≡ option_map f (cond b (Some x) (find p xs))
    go true here rest = ap (λ b. cond b (Some (f x)) (find p xs)) (keeps x ∙ here)
    go false other rest = ap (λ b. cond b (Some x) (find p (changed_first p f xs))) other ∙ rest
