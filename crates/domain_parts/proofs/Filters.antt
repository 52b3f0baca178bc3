-- Lists of what passes a test.
use Rattle.std.proofs.Common.{◌≡◌, suc, ◌+◌, Bool, true, false, cond, List, [], ◌∷◌, length, Option, None, Some, refl, ap, ◌∙◌, arith}
use Rattle.std.specs.Prelude.{find, filter, not, is_some, option_map, ◌&&◌}
use Rattle.std.specs.List.{AllByRecursion}
use Rattle.std.proofs.lemmas.Bool.{both_ways}

-- the first that passes both tests is the first that passes the second among those that pass the first
pub find-both : {X : Type 0} (p q : X → Bool) (xs : List X) → find (λ x. p x && q x) xs ≡ find q (filter p xs)
find-both p q [] = refl
find-both {X} p q (x ∷ xs) = by (p x) (find-both p q xs)
  where
    by : (b : Bool) → find (λ y. p y && q y) xs ≡ find q (filter p xs) → cond (b && q x) (Some x) (find (λ y. p y && q y) xs) ≡ find q (cond b (x ∷ filter p xs) (filter p xs))
    by true rest = ap (λ (o : Option X). cond (q x) (Some x) o) rest
    by false rest = rest

pub length-parted : {X : Type 0} (p : X → Bool) (xs : List X) → length xs ≡ length (filter p xs) + length (filter (λ x. not (p x)) xs)
length-parted p [] = refl
length-parted {X} p (x ∷ xs) = by (p x) (length-parted p xs)
  where
    by : (b : Bool) → length xs ≡ length (filter p xs) + length (filter (λ y. not (p y)) xs) → suc (length xs) ≡ length (cond b (x ∷ filter p xs) (filter p xs)) + length (cond (not b) (x ∷ filter (λ y. not (p y)) xs) (filter (λ y. not (p y)) xs))
    by true rest = omega (arith, rest)
    by false rest = omega (arith, rest)

-- a test that all who pass another pass too takes none of them away
pub filter-inside : {X : Type 0} (p q : X → Bool) → ((x : X) → p x ≡ true → q x ≡ true) → (xs : List X) → filter p (filter q xs) ≡ filter p xs
filter-inside p q implies [] = refl
filter-inside {X} p q implies (x ∷ xs) = by (p x) (q x) refl refl (filter-inside p q implies xs)
  where
    by : (a b : Bool) → p x ≡ a → q x ≡ b → filter p (filter q xs) ≡ filter p xs → filter p (cond b (x ∷ filter q xs) (filter q xs)) ≡ cond a (x ∷ filter p xs) (filter p xs)
    by a true pa qb rest = ap (λ (c : Bool). cond c (x ∷ filter p (filter q xs)) (filter p (filter q xs))) pa ∙ ap (λ (ys : List X). cond a (x ∷ ys) ys) rest
    by true false pa qb rest = absurd (both_ways (q x) qb (implies x pa))
    by false false pa qb rest = rest

-- where all pass
pub filter-every : {X : Type 0} (p : X → Bool) (xs : List X) → AllByRecursion (λ x. p x ≡ true) xs → filter p xs ≡ xs
filter-every p [] all = refl
filter-every {X} p (x ∷ xs) all = ap (λ (b : Bool). cond b (x ∷ filter p xs) (filter p xs)) all.0 ∙ ap (λ (ys : List X). x ∷ ys) (filter-every p xs all.1)

pub every-filter : {X : Type 0} (p : X → Bool) (xs : List X) → AllByRecursion (λ x. p x ≡ true) (filter p xs)
every-filter p [] = tt
every-filter {X} p (x ∷ xs) = by (p x) refl (every-filter p xs)
  where
    by : (b : Bool) → p x ≡ b → AllByRecursion (λ y. p y ≡ true) (filter p xs) → AllByRecursion (λ y. p y ≡ true) (cond b (x ∷ filter p xs) (filter p xs))
    by true is rest = (is, rest)
    by false is rest = rest

pub some-map : {X Y : Type 0} (f : X → Y) (o : Option X) → is_some (option_map f o) ≡ is_some o
some-map f None = refl
some-map f (Some x) = refl
