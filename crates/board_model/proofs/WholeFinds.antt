-- Searches among mapped items.
use Rattle.std.proofs.Common.{◌≡◌, Bool, true, false, cond, List, [], ◌∷◌, map, Option, Some, None, find, option_map, refl, ap, ◌∙◌}

-- the first of the mapped items that passes is that of the first item whose image does
pub find-mapped : {A B : Type 0} (p : B → Bool) (f : A → B) (xs : List A) → find p (map f xs) ≡ option_map f (find (λ x. p (f x)) xs)
find-mapped p f [] = refl
find-mapped {A} {B} p f (x ∷ xs) = ap (λ o. cond (p (f x)) (Some (f x)) o) (find-mapped p f xs) ∙ go (p (f x))
  where
    go : (b : Bool) → cond b (Some (f x)) (option_map f (find (λ y. p (f y)) xs)) ≡ option_map f (cond b (Some x) (find (λ y. p (f y)) xs))
    go true = refl
    go false = refl

find_agree : {A : Type 0} (p q : A → Bool) → ((x : A) → p x ≡ q x) → (xs : List A) → find p xs ≡ find q xs
find_agree p q same [] = refl
find_agree p q same (x ∷ xs) = ap (λ b. cond b (Some x) (find p xs)) (same x) ∙ ap (λ o. cond (q x) (Some x) o) (find_agree p q same xs)

-- where each item passes as its image does
pub find-kept : {A : Type 0} (p : A → Bool) (f : A → A) → ((x : A) → p (f x) ≡ p x) → (xs : List A) → find p (map f xs) ≡ option_map f (find p xs)
find-kept p f same xs = find-mapped p f xs ∙ ap (option_map f) (find_agree (λ x. p (f x)) p same xs)

-- what a mapped option is the image of
pub some_tells : {A B : Type 0} (f : A → B) (o : Option A) (y : B) → option_map f o ≡ Some y → (x : A) × (o ≡ Some x) × (f x ≡ y)
some_tells f None y e = absurd cc
some_tells f (Some x) y e = (x, refl, cc)
