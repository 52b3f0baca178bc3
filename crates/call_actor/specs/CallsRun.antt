-- The run of a board of numbered calls by its actors: what it leaves.
-- Source: docs/PROFILE.md, "Numbered calls on a board".
use Rattle.std.specs.Prelude.{◌≡◌, ℕ, ◌+◌, ◌≤◌, List, length, slice_get, Option, Some, None}
use Rattle.std.specs.List.{flat_map}
use Rattle.board_model.specs.declared.scenario.Scenario.{Scenario}
use Rattle.board_model.specs.Board.{DomainJournal}
use Rattle.board_model.specs.Language.{IsLawfulBoard}
use Rattle.board_model.specs.Logs.{LoggedCall}
use Rattle.board_model.specs.Scenario.{script}
use Rattle.board_runner.specs.declared.outcome.Outcome.{Outcome}
use Rattle.board_runner.specs.ThreadRun.{IsThreadRun}
use Rattle.call_service.specs.Handled.{State}
use Rattle.call_service.specs.Served.{rising}
use Rattle.call_logs.specs.LogMessages.{contents_received}
use Rattle.call_logs.specs.MessageDeeds.{log_at}
use Rattle.call_logs.specs.Roles.{Role, client, server, handled_all, got_lines, FitsRole, HasEnded}
use Rattle.call_logs.specs.CallsBoard.{CallBoard, IsCallsRun, role_of}
use Rattle.call_actor.specs.declared.call_actor.CallActor.{CallActor}
use Rattle.call_actor.specs.CallActors.{gots_of_actor, role_of_actor, service_of_actor}
use Rattle.call_actor.specs.CallRoles.{plain_role}
use Rattle.call_actor.specs.CallsBoards.{IsCallsBoard}

-- the service of a log: it is the server's, and handled the messages that the log received
abbrev pub service_in : Role → List LoggedCall → Option State
service_in (client d repeat calls) log = None
service_in (server clients repeat calls) log = Some (handled_all calls (contents_received log)).service

-- an actor of this role holds what its log comes to: the server its service, and a client what it got
pub record HoldsLog (r : Role) (log : List LoggedCall) (a : CallActor) : Type 0 where
  pub role : plain_role (role_of_actor a) ≡ r
  pub service : service_of_actor a ≡ service_in r log
  pub gots : gots_of_actor a ≡ got_lines r log

-- each domain followed its role to its end, and there is an actor for each, which holds what its log comes to
pub record AreCalled (asked : CallBoard) (s : Scenario) (js : List DomainJournal) (actors : List CallActor) : Type 0 where
  pub fit : (d : ℕ) → FitsRole (role_of asked d) (log_at s js d)
  pub ended : (d : ℕ) → d ≤ asked.clients → HasEnded (role_of asked d) (log_at s js d)
  pub counted : length actors ≡ asked.clients + 1
  pub holds : (d : ℕ) (a : CallActor) → slice_get actors d ≡ Some a → HoldsLog (role_of asked d) (log_at s js d) a

-- the scenario is the board with the scripts of its domains in rising number. The outcome tells a whole run of it on threads, in which each domain
-- followed its role
pub record IsCallsOutcome (asked : CallBoard) (size : ℕ) (s : Scenario) (o : Outcome) (actors : List CallActor) : Type 0 where
  pub board : IsCallsBoard asked.clients size s
  pub lines : s.calls ≡ flat_map (script s) (rising 0 (asked.clients + 1))
  pub lawful : IsLawfulBoard s
  pub run : IsThreadRun s o
  pub called : AreCalled asked s run.journals actors

-- so the laws of numbered calls hold of it
abbrev pub OutcomesAreCallsRuns : Type 0
OutcomesAreCallsRuns =
    (asked : CallBoard) (size : ℕ) (s : Scenario) (o : Outcome) (actors : List CallActor) → (h : IsCallsOutcome asked size s o actors) → IsCallsRun asked s h.run.journals
