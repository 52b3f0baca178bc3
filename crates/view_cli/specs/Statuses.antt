-- With which status the program ends, and what was written then.
-- Source: docs/FORMATS.md, "Statuses".
use Rattle.std.specs.Prelude.{◌≡◌, ◌≢◌, ◌≤◌, ◌⊎◌, ℕ, List}
use Rattle.std.specs.Io.KnownBytes.{Appends}
use Rattle.outer_io.specs.Faults.{Rose}
use Rattle.outer_io.specs.Writes.{AppendsPart}
use Rattle.outer_io.specs.declared.sink.Sink.{Ghosts as SinkGhosts}
use Rattle.outer_io.specs.declared.source.ReadFault.{ReadFault}
use Rattle.outer_io.specs.declared.source.ReadFault.TheVariants as fault
use Rattle.outer_io.specs.declared.source.Source.{Ghosts as SourceGhosts}

-- the status for an input that was not read to its end
abbrev pub status_after : ReadFault → ℕ
status_after fault.Failed = 4
status_after fault.TooLong = 7
status_after fault.NoMemory = 6

-- some text was written whole at every status but 5, at which it breaks off
pub record Writes {K : Type 0} (sink : SinkGhosts K) (status : ℕ) (old new : K) : Type 0 where
  pub whole : status ≢ 5 → (text : List ℕ) × Appends (sink.written old) (sink.written new) text
  pub part : status ≡ 5 → (text : List ℕ) × AppendsPart (sink.written old) (sink.written new) text
  pub failed : status ≡ 5 → Rose (sink.faults old) (sink.faults new)
  pub quiet : status ≢ 5 → sink.faults new ≡ sink.faults old

-- this text was written whole, with the status `done`, or breaks off, with 5
pub record WritesThis {K : Type 0} (sink : SinkGhosts K) (text : List ℕ) (done status : ℕ) (old new : K) : Type 0 where
  pub statuses : (status ≡ done) ⊎ (status ≡ 5)
  pub whole : status ≡ done → Appends (sink.written old) (sink.written new) text
  pub part : status ≡ 5 → AppendsPart (sink.written old) (sink.written new) text

-- what is done with an input that was read: the status is 0, 1, 3, 5 or 6, and nothing is written at 6
pub record Shows {K : Type 0} (sink : SinkGhosts K) (status : ℕ) (old new : K) : Type 0 where
  pub writes : Writes sink status old new
  pub most : status ≤ 6
  pub form : status ≢ 2
  pub read : status ≢ 4
  pub nothing : status ≡ 6 → new ≡ old

-- what is done with an input that is to be read: the status is 0 to 7; 4 comes exactly where a read failed, and 5 where a write failed;
-- nothing is written at 4, 6 and 7
pub record EndsOn {S K : Type 0} (source : SourceGhosts S) (sink : SinkGhosts K) (status : ℕ) (input input' : S) (old new : K) : Type 0 where
  pub writes : Writes sink status old new
  pub most : status ≤ 7
  pub read_failed : status ≡ 4 → Rose (source.faults input) (source.faults input')
  pub read : status ≢ 4 → source.faults input' ≡ source.faults input
  pub nothing : 4 ≤ status → status ≢ 5 → new ≡ old

-- what is done with any words: the same of an input and a scenario file
pub record Ends {S F K : Type 0} (source : SourceGhosts S) (file_source : SourceGhosts F) (sink : SinkGhosts K) (status : ℕ) (input input' : S) (file file' : F) (old new : K) : Type 0 where
  pub writes : Writes sink status old new
  pub most : status ≤ 7
  pub read_failed : status ≡ 4 → Rose (source.faults input) (source.faults input') ⊎ Rose (file_source.faults file) (file_source.faults file')
  pub read : status ≢ 4 → (source.faults input' ≡ source.faults input) × (file_source.faults file' ≡ file_source.faults file)
  pub nothing : 4 ≤ status → status ≢ 5 → new ≡ old
