-- The numbers of a lane's buffers, and how often one occurs in a list.
-- Source: docs/PROFILE.md, "Lanes".
use Rattle.std.specs.Prelude.{ℕ, ◌<◌, ◌≤◌, List}
use Rattle.std.specs.List.{range_with_len}
use Rattle.mc_base.specs.Limits.{pool_limit}
pub use Rattle.mc_base.specs.Numbers.{often, inside}

-- a lane has as many buffers as a domain's own pool may have, and at least one
abbrev pub IsLaneSize : ℕ → Type 0
IsLaneSize size = (0 < size) × (size ≤ pool_limit)

-- their numbers, from 0 on
abbrev pub all_numbers : ℕ → List ℕ
all_numbers size = range_with_len 0 size

-- the numbers differ and are below the size: each number below the size occurs at most once, and no other occurs
abbrev pub AreApart : ℕ → List ℕ → Type 0
AreApart size numbers = (x : ℕ) → often x numbers ≤ inside size x
