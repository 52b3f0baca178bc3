-- A trace of a report: an object for each event, which names the line of the report that says it.
-- Source: docs/FORMATS.md, "Views of a report".
use Rattle.std.specs.Prelude.{ℕ, List}
use Rattle.outer_io.specs.Puts.{Puts}
use Rattle.outer_io.specs.declared.sink.Sink.{Ghosts}
use Rattle.outer_io.specs.declared.writer.Writer.{Writer}
use Rattle.picture_text.specs.Objects.{IsTrace}

-- a trace was put whose objects show these lines, in this order
unfoldable pub PutsTrace : {K : Type 0} (sink : Ghosts K) (old new : Writer K) (lines : List ℕ) → Type 0
PutsTrace sink old new lines = (text : List ℕ) × IsTrace lines text × Puts sink old new text
