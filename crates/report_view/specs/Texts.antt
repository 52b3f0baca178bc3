-- Text that is put and written: some text, of which nothing more is said.
-- Source: docs/PROFILE.md, "The outside".
use Rattle.std.specs.Prelude.{ℕ, List, Result}
use Rattle.outer_io.specs.Faults.{HasCause}
use Rattle.outer_io.specs.Puts.{Puts}
use Rattle.outer_io.specs.Writes.{Writes}
use Rattle.outer_io.specs.declared.sink.Sink.{Ghosts}
use Rattle.outer_io.specs.declared.writer.Writer.{Writer}

-- some text was put between `old` and `new`
unfoldable pub PutsText : {K : Type 0} (sink : Ghosts K) (old new : Writer K) → Type 0
PutsText sink old new = (text : List ℕ) × Puts sink old new text

-- some text was written whole, or a proper prefix of it where a write failed
pub record WritesText {K T E : Type 0} (sink : Ghosts K) (old new : K) (result : Result T E) : Type 0 where
  pub text : List ℕ
  pub bytes : Writes (sink.written old) (sink.written new) result text
  pub cause : HasCause (sink.faults old) (sink.faults new) result
