-- What a receiving end did, move by move.
-- Source: docs/PROFILE.md, "Lanes".
use Rattle.std.specs.Prelude.{ℕ, List}

-- a look that showed n frames, the number of a buffer that was taken with its frame, and one that was given back
pub data ReceiveMove : Type 0 where
  Looked : ℕ → ReceiveMove
  Took : ℕ → List ℕ → ReceiveMove
  Gave : ℕ → ReceiveMove
