-- Which item of a queue a receive takes.
-- Source: docs/PROFILE.md, "Messages": priorities are 0 to 3, and 0 is the best.
use Rattle.std.specs.Prelude.{ℕ, min, List, [], ◌∷◌, ◌==◌, position, slice_get, Option, Some, None, option_and_then}
use Rattle.board_model.specs.Lists.{without}

-- the least priority number of a queue that is not empty
abbrev pub least : {A : Type 0} → (A → ℕ) → List A → ℕ
least priority [] = 0
least priority (x ∷ []) = priority x
least priority (x ∷ y ∷ xs) = min (priority x) (least priority (y ∷ xs))

-- the place of the first item whose priority number is least
abbrev pub best_place : {A : Type 0} → (A → ℕ) → List A → Option ℕ
best_place priority q = position (λ x. priority x == least priority q) q

-- that item: the oldest of the best priority
abbrev pub best : {A : Type 0} → (A → ℕ) → List A → Option A
best priority q = option_and_then (λ i. slice_get q i) (best_place priority q)

-- the rest, in order
abbrev pub without_best : {A : Type 0} → (A → ℕ) → List A → List A
without_best priority q = without (best_place priority q) q

-- the first item
abbrev pub oldest : {A : Type 0} → List A → Option A
oldest [] = None
oldest (x ∷ xs) = Some x
