-- What a sending end did, move by move.
-- Source: docs/PROFILE.md, "Lanes".
use Rattle.std.specs.Prelude.{ℕ, List}

-- a look that showed n buffers, and a frame that was put
pub data SendMove : Type 0 where
  Looked : ℕ → SendMove
  Sent : List ℕ → SendMove
