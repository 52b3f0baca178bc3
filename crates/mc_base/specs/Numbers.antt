-- How often a number stands in a list.
-- Source: docs/PROFILE.md: a buffer is known by its number, and is in one place at a time.
use Rattle.std.specs.Prelude.{ℕ, ◌+◌, ◌==◌, nat_lt, List, [], ◌∷◌, if◌then◌else◌}

-- how many members of a list have the number x
abbrev pub times_by : {A : Type 0} → (A → ℕ) → ℕ → List A → ℕ
times_by number x [] = 0
times_by number x (a ∷ more) = (if number a == x then 1 else 0) + times_by number x more

-- how often x stands in a list of numbers
abbrev pub often : ℕ → List ℕ → ℕ
often x ns = times_by (λ n. n) x ns

-- how often x stands among the numbers below the size
abbrev pub inside : ℕ → ℕ → ℕ
inside size x = if nat_lt x size then 1 else 0
