-- A picture of a report: elements, of which some name the line of the report that they show.
-- Source: docs/FORMATS.md, "Views of a report".
use Rattle.std.specs.Prelude.{ℕ, List}
use Rattle.outer_io.specs.Puts.{Puts}
use Rattle.outer_io.specs.declared.sink.Sink.{Ghosts}
use Rattle.outer_io.specs.declared.writer.Writer.{Writer}
use Rattle.picture_text.specs.Markup.{IsPicture}

-- a picture was put whose elements show these lines, in this order
unfoldable pub PutsPicture : {K : Type 0} (sink : Ghosts K) (old new : Writer K) (lines : List ℕ) → Type 0
PutsPicture sink old new lines = (text : List ℕ) × IsPicture lines text × Puts sink old new text
