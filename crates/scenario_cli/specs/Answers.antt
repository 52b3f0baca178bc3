-- What each form with an input writes, and with which status it ends, by its input.
-- Source: docs/FORMATS.md, "Statuses".
use Rattle.std.specs.Prelude.{◌≡◌, ◌≢◌, ℕ, ◌<◌, ◌≤◌, List, [], ◌∷◌, length, Option, None, IfSome, IsSome}
use Rattle.std.specs.Io.KnownBytes.{Appends, IsAtEnd}
use Rattle.outer_io.specs.Faults.{Rose}
use Rattle.outer_io.specs.Calls.{CountsOne, ReadsStop}
use Rattle.outer_io.specs.Writes.{AppendsPart, WritesStop}
use Rattle.outer_io.specs.declared.sink.Sink.{Ghosts as SinkGhosts}
use Rattle.outer_io.specs.declared.source.Source.{Ghosts as SourceGhosts}
use Rattle.outer_io.specs.declared.source.ReadFault.{ReadFault}
use Rattle.outer_io.specs.declared.source.ReadFault.TheVariants as read_fault
use Rattle.actor_lang.specs.InputFaults.{RefusedInput}
use Rattle.actor_lang.specs.RelayInput.{Relay as RelayRead, relay_told}
use Rattle.actor_lang.specs.CallsInput.{NumberedCalls, calls_told}
use Rattle.board_model.specs.declared.scenario.Scenario.{Scenario}
use Rattle.board_model.specs.Language.{RefusedLine}
use Rattle.board_model.specs.Report.{serial, threads}
use Rattle.report_laws.specs.Reasons.{IsExplained}
use Rattle.report_text.specs.declared.verdict.Verdict.TheVariants.{Right, Wrong}
use Rattle.ring_trace.specs.declared.checking.ImageInfo.{ImageInfo}
use Rattle.ring_trace.specs.declared.checking.ImageFault.{ImageFault}
use Rattle.scenario_cli.specs.declared.form.Form.{Form}
use Rattle.scenario_cli.specs.declared.form.Form.TheVariants.{Run, SerialRun, Check, Frame, Ring, Relay, Calls}
use Rattle.scenario_cli.specs.Words.{IsOneOf, report_limit, limit_of}
use Rattle.scenario_cli.specs.RefusedText.{refusal_text}
use Rattle.scenario_cli.specs.VerdictText.{verdict_line, WrongLine, HasNoWrongLine, HasWrongLine, IsOfRun}
use Rattle.scenario_cli.specs.FrameText.{TellsRight, TellsWrong, wrong_in}
use Rattle.scenario_cli.specs.ImageText.{IsImage, IsNoImage, image_line, image_fault_line}
use Rattle.scenario_cli.specs.Due.{IsScenario, IsRefused, IsReport}
use Rattle.scenario_cli.specs.InputRefusal.{IsInputRefusal}
use Rattle.scenario_cli.specs.RelayReport.{IsRelay, IsNoRelay, IsRelayReport}
use Rattle.scenario_cli.specs.CallsReport.{AreCalls, AreNoCalls, IsCallsReport}

-- the input is what the form asks for, or is not
pub data Sort : Type 0 where
  good : Sort
  bad : Sort

abbrev pub other_sort : Sort → Sort
other_sort good = bad
other_sort bad = good

-- the status for an input of each sort
abbrev pub status_for : Form → Sort → ℕ
status_for form good = 0
status_for Run bad = 3
status_for SerialRun bad = 3
status_for Check bad = 1
status_for Frame bad = 1
status_for Ring bad = 1
status_for Relay bad = 3
status_for Calls bad = 3

-- the status for an input that was not read to its end
abbrev pub status_after : ReadFault → ℕ
status_after read_fault.Failed = 4
status_after read_fault.TooLong = 7
status_after read_fault.NoMemory = 6

-- ---- the sort of an input: a scenario or none, a report without a wrong line or with one, a sound frame or none, a sound image or none, a relay
-- or none, numbered calls or none

abbrev pub IsOfSort : Form → Sort → List ℕ → Type 0
IsOfSort Run good text = (s : Scenario) × IsScenario text s
IsOfSort Run bad text = (r : RefusedLine) × IsRefused text r
IsOfSort SerialRun good text = (s : Scenario) × IsScenario text s
IsOfSort SerialRun bad text = (r : RefusedLine) × IsRefused text r
IsOfSort Check good text = HasNoWrongLine text
IsOfSort Check bad text = (w : WrongLine) × HasWrongLine text w
IsOfSort Frame good text = wrong_in text ≡ None
IsOfSort Frame bad text = IsSome (wrong_in text)
IsOfSort Ring good bytes = (info : ImageInfo) × IsImage bytes info
IsOfSort Ring bad bytes = (fault : ℕ × ImageFault) × IsNoImage bytes fault
IsOfSort Relay good text = (relay : RelayRead) × IsRelay text relay
IsOfSort Relay bad text = (r : RefusedInput) × IsNoRelay text r
IsOfSort Calls good text = (calls : NumberedCalls) × AreCalls text calls
IsOfSort Calls bad text = (r : RefusedInput) × AreNoCalls text r

-- ---- the output for it

-- the refusal of a text that is no scenario
pub record IsRefusal (text output : List ℕ) : Type 0 where
  pub line : RefusedLine
  pub refused : IsRefused text line
  pub written : output ≡ refusal_text line

-- of a report that is that of a whole run of its board, of which the headline holds: that it is right
pub record IsRightReport (text output : List ℕ) : Type 0 where
  pub right : HasNoWrongLine text
  pub of_run : IsOfRun text
  pub written : output ≡ verdict_line Right

-- of any other: its first wrong line and the reason, and what the reason says of its journals
pub record IsWrongReport (text output : List ℕ) : Type 0 where
  pub wrong : WrongLine
  pub is : HasWrongLine text wrong
  pub explained : IsExplained text wrong.1
  pub written : output ≡ verdict_line (Wrong wrong.0 wrong.1)

-- of an image without a fault: its size, its queue and its indices; of any other bytes: the first fault and its place
pub record IsRightImage (bytes output : List ℕ) : Type 0 where
  pub info : ImageInfo
  pub is : IsImage bytes info
  pub written : output ≡ image_line info

pub record IsWrongImage (bytes output : List ℕ) : Type 0 where
  pub fault : ℕ × ImageFault
  pub is : IsNoImage bytes fault
  pub written : output ≡ image_fault_line fault

abbrev pub IsAnswer : Form → Sort → List ℕ → List ℕ → Type 0
IsAnswer Run good text output = IsReport threads text output
IsAnswer Run bad text output = IsRefusal text output
IsAnswer SerialRun good text output = IsReport serial text output
IsAnswer SerialRun bad text output = IsRefusal text output
IsAnswer Check good text output = IsRightReport text output
IsAnswer Check bad text output = IsWrongReport text output
IsAnswer Frame good text output = TellsRight text output
IsAnswer Frame bad text output = TellsWrong text output
IsAnswer Ring good bytes output = IsRightImage bytes output
IsAnswer Ring bad bytes output = IsWrongImage bytes output
IsAnswer Relay good text output = IsRelayReport text output
IsAnswer Relay bad text output = IsInputRefusal (relay_told text) output
IsAnswer Calls good text output = IsCallsReport text output
IsAnswer Calls bad text output = IsInputRefusal (calls_told text) output

-- the output that is due for an input, of whichever sort it is
abbrev pub IsDue : Form → List ℕ → List ℕ → Type 0
IsDue form text output = (sort : Sort) × IsAnswer form sort text output

-- ---- what a form does with an input that was read

-- a write of this output failed: a proper prefix of it was written, with no more writes than it has bytes and one, and the sink does not take
-- the whole output
pub record Stops {K : Type 0} (sink : SinkGhosts K) (old new : K) (output : List ℕ) : Type 0 where
  pub part : AppendsPart (sink.written old) (sink.written new) output
  pub last : WritesStop (sink.written old) (sink.written new) (sink.calls old) (sink.calls new) output
  pub no_room : (n : ℕ) → length output ≤ n → sink.takes old n → ⊥

pub record Tells {K : Type 0} (sink : SinkGhosts K) (form : Form) (text : List ℕ) (status : ℕ) (old new : K) : Type 0 where
  pub statuses : IsOneOf (0 ∷ status_for form bad ∷ 5 ∷ 6 ∷ []) status
  pub whole : (sort : Sort) → status ≡ status_for form sort → (output : List ℕ) × IsAnswer form sort text output × Appends (sink.written old) (sink.written new) output
  pub stops : status ≡ 5 → (output : List ℕ) × IsDue form text output × Stops sink old new output
  pub rose : status ≡ 5 → Rose (sink.faults old) (sink.faults new)
  pub quiet : status ≢ 5 → sink.faults new ≡ sink.faults old
  pub later : sink.faults old ≤ sink.faults new
  pub nothing : status ≡ 6 → new ≡ old
  pub exact : (sort : Sort) → IsOfSort form sort text → status ≢ status_for form (other_sort sort)

-- ---- with the reading

-- a fact of an input within the form's limit
abbrev pub OfInput : Form → Option (List ℕ) → (List ℕ → Type 0) → Type 0
OfInput form rest P = IfSome rest (λ text. (length text ≤ limit_of form) × P text)

-- what a form does with what a source has to come
pub record Answers {S K : Type 0} (source : SourceGhosts S) (sink : SinkGhosts K) (form : Form) (status : ℕ) (input input' : S) (old new : K) : Type 0 where
  pub statuses : IsOneOf (0 ∷ status_for form bad ∷ 4 ∷ 5 ∷ 6 ∷ 7 ∷ []) status
  -- 0, and 1 or 3: the output for an input of this sort was written whole, and the input read to its end, with one read that came to it
  pub whole : (sort : Sort) → status ≡ status_for form sort → OfInput form (source.rest input) (λ text. (output : List ℕ) × IsAnswer form sort text output × Appends (sink.written old) (sink.written new) output)
  pub read_to_end : IsOneOf (0 ∷ status_for form bad ∷ []) status → IsAtEnd (source.rest input')
  pub end_once : IsOneOf (0 ∷ status_for form bad ∷ []) status → CountsOne (source.ends input) (source.ends input')
  -- they come where nothing fails and there is enough memory
  pub exact : (sort : Sort) → IfSome (source.rest input) (λ text. length text ≤ limit_of form → IsOfSort form sort text → IsOneOf (status_for form sort ∷ 4 ∷ 5 ∷ 6 ∷ []) status)
  -- 4: no more reads were made than bytes came, and one
  pub reads_stop : status ≡ 4 → ReadsStop (source.rest input) (source.rest input') (source.calls input) (source.calls input') (limit_of form)
  -- 5: the output that is due breaks off
  pub writes_stop : status ≡ 5 → OfInput form (source.rest input) (λ text. (output : List ℕ) × IsDue form text output × Stops sink old new output)
  -- 7: exactly where more bytes came than the limit
  pub too_long : status ≡ 7 → IfSome (source.rest input) (λ text. limit_of form < length text)
  pub over_limit : IfSome (source.rest input) (λ text. limit_of form < length text → IsOneOf (4 ∷ 6 ∷ 7 ∷ []) status)

-- of an input within the limit of reports that is the report of a whole run of its board
abbrev pub IfReportOfRun : Option (List ℕ) → Type 0 → Type 0
IfReportOfRun rest P = IfSome rest (λ text. length text ≤ report_limit → IsOfRun text → P)

-- ---- of any words

-- 4 and 5 come exactly where a read or a write failed in this call, and the counts of faults never fall; at 4, 6 and 7 nothing was written
pub record Ends {S K : Type 0} (source : SourceGhosts S) (sink : SinkGhosts K) (status : ℕ) (input input' : S) (old new : K) : Type 0 where
  pub statuses : IsOneOf (0 ∷ 1 ∷ 2 ∷ 3 ∷ 4 ∷ 5 ∷ 6 ∷ 7 ∷ []) status
  pub read_failed : status ≡ 4 → Rose (source.faults input) (source.faults input')
  pub no_read_failed : status ≢ 4 → source.faults input' ≡ source.faults input
  pub sound_source : source.never_fails input → status ≢ 4
  pub write_failed : status ≡ 5 → Rose (sink.faults old) (sink.faults new)
  pub no_write_failed : status ≢ 5 → sink.faults new ≡ sink.faults old
  pub nothing_written : IsOneOf (4 ∷ 6 ∷ 7 ∷ []) status → new ≡ old
  pub read_faults : source.faults input ≤ source.faults input'
  pub write_faults : sink.faults old ≤ sink.faults new

-- ---- with no input

-- what words do that ask for no input: this text was written whole, with this status, or breaks off
pub record Writes {K : Type 0} (sink : SinkGhosts K) (text : List ℕ) (done status : ℕ) (old new : K) : Type 0 where
  pub statuses : IsOneOf (done ∷ 5 ∷ 6 ∷ []) status
  pub whole : status ≡ done → Appends (sink.written old) (sink.written new) text
  pub stops : status ≡ 5 → Stops sink old new text

-- the same where no memory is asked for, so there is no 6
pub record WritesAtOnce {K : Type 0} (sink : SinkGhosts K) (text : List ℕ) (done status : ℕ) (old new : K) : Type 0 where
  pub statuses : IsOneOf (done ∷ 5 ∷ []) status
  pub whole : status ≡ done → Appends (sink.written old) (sink.written new) text
  pub stops : status ≡ 5 → Stops sink old new text

-- and whatever was written
pub record Unread {K : Type 0} (sink : SinkGhosts K) (status : ℕ) (old new : K) : Type 0 where
  pub statuses : IsOneOf (0 ∷ 2 ∷ 5 ∷ 6 ∷ []) status
  pub rose : status ≡ 5 → Rose (sink.faults old) (sink.faults new)
  pub quiet : status ≢ 5 → sink.faults new ≡ sink.faults old
  pub later : sink.faults old ≤ sink.faults new
  pub nothing : status ≡ 6 → new ≡ old
