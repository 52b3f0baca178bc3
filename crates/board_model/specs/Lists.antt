-- Words on lists that the other files use.
-- Source: plain lists, counted from 0.
use Rattle.std.specs.Prelude.{◌≡◌, ℕ, zero, suc, nat_lt, Bool, List, [], ◌∷◌, ◌++◌, Option, Some, None, if◌then◌else◌}

-- the list with the item at a place changed
abbrev pub changed_at : {A : Type 0} → (A → A) → ℕ → List A → List A
changed_at f i [] = []
changed_at f zero (x ∷ xs) = f x ∷ xs
changed_at f (suc i) (x ∷ xs) = x ∷ changed_at f i xs

-- the same where there may be no such place
abbrev pub changed : {A : Type 0} → (A → A) → Option ℕ → List A → List A
changed f None xs = xs
changed f (Some i) xs = changed_at f i xs

-- the list without the item at a place
abbrev pub without_at : {A : Type 0} → ℕ → List A → List A
without_at i [] = []
without_at zero (x ∷ xs) = xs
without_at (suc i) (x ∷ xs) = x ∷ without_at i xs

abbrev pub without : {A : Type 0} → Option ℕ → List A → List A
without None xs = xs
without (Some i) xs = without_at i xs

-- the first item that passes changed, and left out
abbrev pub changed_first : {A : Type 0} → (A → Bool) → (A → A) → List A → List A
changed_first passes f [] = []
changed_first passes f (x ∷ xs) = if passes x then f x ∷ xs else x ∷ changed_first passes f xs

abbrev pub without_first : {A : Type 0} → (A → Bool) → List A → List A
without_first passes [] = []
without_first passes (x ∷ xs) = if passes x then xs else x ∷ without_first passes xs

-- a number more in a list in rising order
abbrev pub with_rising : ℕ → List ℕ → List ℕ
with_rising n [] = n ∷ []
with_rising n (m ∷ ms) = if nat_lt n m then n ∷ m ∷ ms else m ∷ with_rising n ms

-- the first list is a prefix of the second
abbrev pub IsPrefix : {A : Type 0} → List A → List A → Type 0
IsPrefix {A = A} xs ys = (rest : List A) × (ys ≡ xs ++ rest)
