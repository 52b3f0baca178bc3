-- A buffer as contracts see it.
use Rattle.std.specs.Prelude.{ℕ, List}

-- its number and its bytes
pub record Stored : Type 0 where
  pub number : ℕ
  pub bytes : List ℕ
