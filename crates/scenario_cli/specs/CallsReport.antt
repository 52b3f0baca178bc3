-- What the form `calls` writes: the report of a run of the board of the numbered calls that the text tells, in which each domain followed its
-- role, and behind it the lines of the calls.
-- Source: docs/PROFILE.md, "Numbered calls on a board", docs/FORMATS.md, "Text of numbered calls" and "Lines of numbered calls", and
-- docs/PROMISES.md, "Numbered calls".
use Rattle.std.specs.Prelude.{◌≡◌, ℕ, ◌+◌, ◌≤◌, List, ◌++◌, Ok, Err}
use Rattle.std.specs.List.{flat_map}
use Rattle.actor_lang.specs.CallsInput.{NumberedCalls, calls_told}
use Rattle.actor_lang.specs.InputFaults.{RefusedInput}
use Rattle.board_model.specs.declared.scenario.Scenario.{Scenario}
use Rattle.board_model.specs.Board.{DomainJournal}
use Rattle.board_model.specs.Language.{IsLawfulBoard}
use Rattle.board_model.specs.Report.{threads}
use Rattle.board_model.specs.Scenario.{script}
use Rattle.board_runner.specs.RingLines.{report_left}
use Rattle.call_actor.specs.CallsBoards.{IsCallsBoard, board_of}
use Rattle.call_logs.specs.CallsBoard.{CallBoard, IsCallsRun, calls_of_client, carried_calls, role_of}
use Rattle.call_logs.specs.CallsLaw.{CarriedInOrder, GotInOrder}
use Rattle.call_logs.specs.MessageDeeds.{log_at}
use Rattle.call_logs.specs.Roles.{HasEnded, got_lines}
use Rattle.call_logs.specs.declared.got.Got.{Got}
use Rattle.call_report.specs.CallsText.{calls_text}
use Rattle.call_service.specs.Served.{rising}
use Rattle.split_ring.specs.Finished.{FinishedRing}
use Rattle.scenario_cli.specs.Due.{IsSound, MayLeaveRings}
use Rattle.scenario_cli.specs.VerdictText.{HasNoWrongLine}

-- the text tells these calls
abbrev pub AreCalls : List ℕ → NumberedCalls → Type 0
AreCalls text calls = calls_told text ≡ Ok calls

-- the text tells none, and is refused at this line with this reason
abbrev pub AreNoCalls : List ℕ → RefusedInput → Type 0
AreNoCalls text r = calls_told text ≡ Err r

-- what there is to do
abbrev pub asked_by : NumberedCalls → CallBoard
asked_by c = board_of c.clients c.repeat c.calls

-- what a domain got of its calls, by its journal. The server got nothing
abbrev pub gots_of : CallBoard → Scenario → List DomainJournal → ℕ → List Got
gots_of asked s js d = got_lines (role_of asked d) (log_at s js d)

-- the lines of the calls, by the journals
abbrev pub calls_lines : CallBoard → Scenario → List DomainJournal → List ℕ
calls_lines asked s js = calls_text asked.clients (carried_calls s js) (gots_of asked s js)

-- what a run of the board left: the report, and what holds of its journals and so of the lines of the calls
pub record AreCallsJournals (asked : CallBoard) (size : ℕ) (s : Scenario) (js : List DomainJournal) : Type 0 where
  -- the scenario: the board, and the lines that its domains gave, by domain
  pub board : IsCallsBoard asked.clients size s
  pub lines : s.calls ≡ flat_map (script s) (rising 0 (asked.clients + 1))
  pub lawful : IsLawfulBoard s
  -- a whole run of it, of which the headline holds, and in which each domain followed its role to its end
  pub sound : IsSound s js
  pub run : IsCallsRun asked s js
  pub ended : (d : ℕ) → d ≤ asked.clients → HasEnded (role_of asked d) (log_at s js d)
  -- the law of numbered calls: each client's calls are carried out in order, each once, and it got what was carried out
  pub in_order : (d : ℕ) → CarriedInOrder (carried_calls s js) d (calls_of_client asked d)
  pub got : (d : ℕ) → GotInOrder (carried_calls s js) d (gots_of asked s js d)

-- the output is the report of a run on threads, which has no wrong line, and the lines of the calls. All lines are those of the journals
pub record IsCallsReport (text output : List ℕ) : Type 0 where
  pub calls : NumberedCalls
  pub read : AreCalls text calls
  pub scenario : Scenario
  pub journals : List DomainJournal
  pub are : AreCallsJournals (asked_by calls) calls.size scenario journals
  -- the rings of the run
  pub rings : List FinishedRing
  pub rings_left : MayLeaveRings threads scenario journals rings
  pub checked : HasNoWrongLine (report_left threads scenario journals rings)
  pub written : output ≡ report_left threads scenario journals rings ++ calls_lines (asked_by calls) scenario journals
