-- What the run of a board leaves, in either mode.
-- Source: docs/FORMATS.md, "Statuses".
use Rattle.std.specs.Prelude.{◌≡◌, ℕ, List}
use Rattle.board_model.specs.declared.scenario.Scenario.{Scenario}
use Rattle.board_model.specs.Board.{DomainJournal}
use Rattle.board_model.specs.Report.{Mode}
use Rattle.board_runner.specs.declared.outcome.Outcome.{Outcome}
use Rattle.board_runner.specs.Outcome.{IsOutcome}
use Rattle.board_runner.specs.RingLines.{report_left}
use Rattle.split_ring.specs.Finished.{FinishedRing}
use Rattle.scenario_cli.specs.Due.{IsSound, MayLeave, MayLeaveRings}
use Rattle.scenario_cli.specs.VerdictText.{HasNoWrongLine}

-- sound journals, their numbers, and their rings
pub record IsLeft (mode : Mode) (s : Scenario) (o : Outcome) : Type 0 where
  pub journals : List DomainJournal
  pub left : MayLeave mode s journals
  pub sound : IsSound s journals
  pub told : IsOutcome s o journals
  pub rings_left : MayLeaveRings mode s journals o.rings

-- the output is the report of sound journals, and of rings, that a run in this mode may leave. It has no wrong line
pub record IsReportOf (mode : Mode) (s : Scenario) (output : List ℕ) : Type 0 where
  pub journals : List DomainJournal
  pub left : MayLeave mode s journals
  pub sound : IsSound s journals
  pub rings : List FinishedRing
  pub rings_left : MayLeaveRings mode s journals rings
  pub written : output ≡ report_left mode s journals rings
  pub checked : HasNoWrongLine output
