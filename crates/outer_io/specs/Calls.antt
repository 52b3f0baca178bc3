-- How a count of calls grows, where it is told.
-- Source: docs/PROFILE.md, "The outside". A count is a u64, and stands still at the greatest one.
use Rattle.std.specs.Prelude.{◌≡◌, ◌≢◌, ℕ, ◌+◌, ◌≤◌, ⊤, List, length, Option, None, Some, Result, MatchResult}
use Rattle.std.specs.Io.KnownBytes.{Consumes}
use Rattle.outer_io.specs.Faults.{one_more}

-- one call was made
abbrev pub CountsOne : Option ℕ → Option ℕ → Type 0
CountsOne None new = ⊤
CountsOne (Some before) None = ⊥
CountsOne (Some before) (Some now) = now ≡ one_more before

-- a read came to the end where it answers Ok 0, and nowhere else
abbrev pub CountsEnd : {E : Type 0} → Option ℕ → Option ℕ → Result ℕ E → Type 0
CountsEnd before now result = MatchResult result (λ n. (n ≡ 0 → CountsOne before now) × (n ≢ 0 → now ≡ before)) (λ _. now ≡ before)

-- at most n calls were made
abbrev pub CountsAtMost : Option ℕ → Option ℕ → ℕ → Type 0
CountsAtMost None new n = ⊤
CountsAtMost (Some before) None n = ⊥
CountsAtMost (Some before) (Some now) n = now ≤ before + n

-- at most `limit` bytes were read, and no more reads were made than these and one. Each read that is not at the end and doesn't fail moves one
-- byte at least, so from a source that gives a byte at a time none was made after one that failed
abbrev pub ReadsStop : Option (List ℕ) → Option (List ℕ) → Option ℕ → Option ℕ → ℕ → Type 0
ReadsStop old new before now limit = (bytes : List ℕ) × (length bytes ≤ limit) × Consumes old new bytes × CountsAtMost before now (length bytes + 1)
