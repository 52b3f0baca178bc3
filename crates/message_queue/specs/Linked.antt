-- Lists of places that are linked: each place names the one after it.
-- Source: the code of the queue.
use Rattle.std.specs.Prelude.{◌≡◌, ◌≢◌, ℕ, zero, suc, List, [], ◌∷◌, ◌++◌, ◌==◌, Bool, not, get_or}
use Rattle.std.specs.List.{AllByRecursion}
use Rattle.board_model.specs.Lists.{without_first}

-- the link at a place
abbrev pub at : List ℕ → ℕ → ℕ
at links place = get_or links place 0

-- so many places, from this one on
abbrev pub walk : List ℕ → ℕ → ℕ → List ℕ
walk next zero place = []
walk next (suc n) place = place ∷ walk next n (at next place)

-- from one place over these to another, each names the next, and is named by it as the one before
abbrev pub IsLinked : List ℕ → List ℕ → ℕ → List ℕ → ℕ → Type 0
IsLinked next prev before [] after = (at next before ≡ after) × (at prev after ≡ before)
IsLinked next prev before (o ∷ os) after = (at next before ≡ o) × (at prev o ≡ before) × IsLinked next prev o os after

-- from the first on, each names the next, and the last names none, which is 0
abbrev pub IsChain : List ℕ → ℕ → List ℕ → Type 0
IsChain same first [] = first ≡ 0
IsChain same first (o ∷ os) = (first ≡ o) × IsChain same (at same o) os

abbrev pub last_of : ℕ → List ℕ → ℕ
last_of o [] = o
last_of o (x ∷ xs) = last_of x xs

-- where there is one, this is the last
abbrev pub EndsAt : ℕ → List ℕ → Type 0
EndsAt last [] = Unit {0}
EndsAt last (o ∷ os) = last ≡ last_of o os

-- this one is not among them
abbrev pub Lacks : List ℕ → ℕ → Type 0
Lacks os i = AllByRecursion (λ o. o ≢ i) os

-- no two are the same
abbrev pub Differ : List ℕ → Type 0
Differ [] = Unit {0}
Differ (o ∷ os) = Lacks os o × Differ os

-- the numbers below this one, rising
abbrev pub upto : ℕ → List ℕ
upto zero = []
upto (suc n) = upto n ++ n ∷ []

-- 0 is no place of a message
abbrev pub is_place : ℕ → Bool
is_place place = not (place == 0)

-- the others, in the same order
abbrev pub without_place : List ℕ → ℕ → List ℕ
without_place os place = without_first (λ o. o == place) os
