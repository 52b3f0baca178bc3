-- Pieces of an output, each written whole, and the lines of a report that they show.
-- Source: docs/FORMATS.md, "Views of a report".
use Rattle.std.specs.Prelude.{◌≡◌, ℕ, List}
use Rattle.std.specs.List.{flat_map}
use Rattle.outer_io.specs.Puts.{Puts}
use Rattle.outer_io.specs.declared.sink.Sink.{Ghosts}
use Rattle.outer_io.specs.declared.writer.Writer.{Writer}

-- some pieces were put between `old` and `new`, and these lines are those that they show, piece by piece
unfoldable pub PutsPieces : {K X : Type 0} (text shown : X → List ℕ) (sink : Ghosts K) (old new : Writer K) (lines : List ℕ) → Type 0
PutsPieces {K} {X} text shown sink old new lines = (pieces : List X) × (flat_map shown pieces ≡ lines) × Puts sink old new (flat_map text pieces)
