-- The number that a word writes, where numbers have a limit, and where a byte first occurs.
-- Source: docs/FORMATS.md, "Scenario files": numbers are decimal without leading zeros, each in its range.
use Rattle.std.specs.Prelude.{ℕ, Bool, true, not, List, [], ◌∷◌, ◌==◌, nat_le, Option, None, Some, if◌then◌else◌}

abbrev pub at_most : ℕ → Option ℕ → Option ℕ
at_most most None = None
at_most most (Some n) = if nat_le n most then Some n else None

-- any byte but this one
abbrev pub is_other : ℕ → ℕ → Bool
is_other stop b = not (b == stop)

-- an empty text, or one that begins with this byte
abbrev pub ends_at : ℕ → List ℕ → Bool
ends_at stop [] = true
ends_at stop (b ∷ bs) = b == stop
