-- What becomes of a writer, and of the sink under it, where a text is put piece by piece.
-- Source: docs/PROFILE.md, "The outside": after a failed write a proper prefix of the text stands, and no more comes.
use Rattle.std.specs.Prelude.{◌≡◌, ℕ, ◌+◌, ◌-◌, ◌≤◌, List, ◌++◌, length, true, false, Option, Result, IsOk, IsErr, OnOk, OnErr}
use Rattle.std.specs.Io.KnownBytes.{Appends}
use Rattle.outer_io.specs.Faults.{Rose, HasCause}
use Rattle.outer_io.specs.Calls.{CountsAtMost}
use Rattle.outer_io.specs.Writes.{Writes, WritesStop, AppendsPart}
use Rattle.outer_io.specs.declared.sink.Sink.{Ghosts}
use Rattle.outer_io.specs.declared.writer.Writer.{Writer}

-- what was gathered and then put is what was written and then is gathered
abbrev pub PassesOn : Option (List ℕ) → Option (List ℕ) → List ℕ → List ℕ → List ℕ → Type 0
PassesOn before now gathered text left = (front : List ℕ) × (gathered ++ text ≡ front ++ left) × Appends before now front

-- this text was put between `old` and `new`. `sink` has what is told of a sink: `K.Sink` under `K: Sink`
pub record Progress {K : Type 0} (sink : Ghosts K) (old new : Writer K) (text : List ℕ) : Type 0 where
  -- with no failure the whole text was written or gathered
  pub whole : new.failed ≡ false → (old.failed ≡ false) × PassesOn (sink.written old.sink.now) (sink.written new.sink.now) old.gathered.items text new.gathered.items
  -- where this failed, a proper prefix of what was gathered and put was written, and the faults rose
  pub part : old.failed ≡ false → new.failed ≡ true → AppendsPart (sink.written old.sink.now) (sink.written new.sink.now) (old.gathered.items ++ text)
  pub rose : old.failed ≡ false → new.failed ≡ true → Rose (sink.faults old.sink.now) (sink.faults new.sink.now)
  -- no more writes were made than bytes were written; where one failed, one more
  pub few : new.failed ≡ false → CountsAtMost (sink.calls old.sink.now) (sink.calls new.sink.now) (length old.gathered.items + length text - length new.gathered.items)
  pub stops : old.failed ≡ false → new.failed ≡ true → WritesStop (sink.written old.sink.now) (sink.written new.sink.now) (sink.calls old.sink.now) (sink.calls new.sink.now) (old.gathered.items ++ text)
  -- without a failure no write failed
  pub quiet : new.failed ≡ false → sink.faults new.sink.now ≡ sink.faults old.sink.now
  -- after a failure nothing changes
  pub still : old.failed ≡ true → new ≡ old
  -- faults never fall
  pub later : sink.faults old.sink.now ≤ sink.faults new.sink.now
  -- with room for what is gathered and put this does not fail, and the room that it leaves is there
  pub room : (n : ℕ) → old.failed ≡ false → sink.takes old.sink.now n → length old.gathered.items + length text ≤ n
      → (new.failed ≡ false) × sink.takes new.sink.now (n + length new.gathered.items - (length old.gathered.items + length text))
  -- the writer stays on its sink
  pub same : new.sink.ghost_name ≡ old.sink.ghost_name

-- the word for clauses. It is opened only where a writer is made and finished
unfoldable pub Puts : {K : Type 0} (sink : Ghosts K) (old new : Writer K) (text : List ℕ) → Type 0
Puts sink old new text = Progress sink old new text

-- a writer is finished, and leaves its sink as `end`
pub record IsFinished {K T E : Type 0} (sink : Ghosts K) (last : Writer K) (end : K) (result : Result T E) : Type 0 where
  -- after a failure nothing changes
  pub failed : last.failed ≡ true → IsErr result × (end ≡ last.sink.now)
  -- else what is gathered is written
  pub bytes : last.failed ≡ false → Writes (sink.written last.sink.now) (sink.written end) result last.gathered.items
  pub cause : last.failed ≡ false → HasCause (sink.faults last.sink.now) (sink.faults end) result
  pub room : (n : ℕ) → last.failed ≡ false → sink.takes last.sink.now n → length last.gathered.items ≤ n → IsOk result
  -- no more writes are made than there are bytes; where one fails, no more than bytes were written, and one
  pub few : last.failed ≡ false → OnOk result (CountsAtMost (sink.calls last.sink.now) (sink.calls end) (length last.gathered.items))
  pub stops : last.failed ≡ false → OnErr result (WritesStop (sink.written last.sink.now) (sink.written end) (sink.calls last.sink.now) (sink.calls end) last.gathered.items)
