-- What the report of a run says: the journals of a whole run of the board that was read, of which the headline holds.
-- Source: docs/PROMISES.md, "The headline". `rest` is what a source has to come, and `old` and `new` are what a sink holds
-- before and after, each where it is told.
use Rattle.std.specs.Prelude.{◌≡◌, ℕ, ◌≤◌, List, [], length, Option, IfSome, Ok, Err}
use Rattle.std.specs.Io.KnownBytes.{Appends}
use Rattle.board_model.specs.declared.scenario.Scenario.{Scenario}
use Rattle.board_model.specs.Language.{RefusedLine, refused, told_by}
use Rattle.scenario_lang.specs.declared.fault.ScenarioFault.{ScenarioFault}
use Rattle.scenario_lang.specs.declared.fault.ScenarioFault.TheVariants as scenario_fault
use Rattle.board_model.specs.Board.{DomainJournal, IsBoardRun, AreWhole}
use Rattle.board_model.specs.SerialRun.{serial_run}
use Rattle.board_model.specs.Report.{Mode, serial, threads}
use Rattle.board_model.specs.Headline.{Headline}
use Rattle.board_runner.specs.RingLines.{report_left}
use Rattle.board_runner.specs.ThreadRun.{TellLanes}
use Rattle.ring_numbers.specs.InTime.{AreInTime}
use Rattle.split_ring.specs.Finished.{FinishedRing}
use Rattle.scenario_cli.specs.Words.{input_limit}
use Rattle.scenario_cli.specs.VerdictText.{HasNoWrongLine}

-- the text tells this scenario
abbrev pub IsScenario : List ℕ → Scenario → Type 0
IsScenario text s = told_by text ≡ Ok s

-- the text tells none, and is refused at this line with this reason
abbrev pub IsRefused : List ℕ → RefusedLine → Type 0
IsRefused text r = told_by text ≡ Err r

-- a fault of reading says of the text the line that is refused. An allocation that failed says nothing of it
abbrev pub IsFaultOf : List ℕ → ScenarioFault → Type 0
IsFaultOf text (scenario_fault.Refused line reason) = IsRefused text (refused line reason)
IsFaultOf text scenario_fault.NoMemory = Unit {0}

-- the journals are a whole run of the board, and the headline holds of them
pub record IsSound (s : Scenario) (js : List DomainJournal) : Type 0 where
  pub board_run : IsBoardRun s js
  pub whole : AreWhole s js
  pub headline : Headline s js

-- a run in this mode may leave these journals: on one thread those of the serial run. Of threads no more is said
abbrev pub MayLeave : Mode → Scenario → List DomainJournal → Type 0
MayLeave serial s js = js ≡ serial_run s
MayLeave threads s js = Unit {0}

-- and these rings with them: on one thread none is finished. On threads these are finished rings, of which the images, the places of the
-- buffers and the looks of both ends are those of the journals; and no buffer came back before its frame was put
abbrev pub MayLeaveRings : Mode → Scenario → List DomainJournal → List FinishedRing → Type 0
MayLeaveRings serial s js rings = rings ≡ []
MayLeaveRings threads s js rings = TellLanes s js s.links rings × AreInTime s js

-- the output is the report of a run in this mode of the scenario that the text tells, its journals are sound, and its ring lines are the
-- images of the rings. It has no wrong line
pub record IsReport (mode : Mode) (text output : List ℕ) : Type 0 where
  pub scenario : Scenario
  pub read : IsScenario text scenario
  pub journals : List DomainJournal
  pub left : MayLeave mode scenario journals
  pub sound : IsSound scenario journals
  pub rings : List FinishedRing
  pub rings_left : MayLeaveRings mode scenario journals rings
  pub written : output ≡ report_left mode scenario journals rings
  pub checked : HasNoWrongLine output

-- the whole report of a run in this mode was written, of an input within the limit
abbrev pub Reports : Mode → Option (List ℕ) → Option (List ℕ) → Option (List ℕ) → Type 0
Reports mode rest old new = IfSome rest (λ text. (length text ≤ input_limit) × ((output : List ℕ) × IsReport mode text output × Appends old new output))
