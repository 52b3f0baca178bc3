-- The lines of numbered calls by what the actors of a run hold: the server, which stands first, what it carried out, and each client what it got.
-- Source: docs/FORMATS.md, "Lines of numbered calls".
use Rattle.std.specs.Prelude.{◌≡◌, ℕ, ◌+◌, List, [], ◌++◌, length, slice_get, Option, None, Some, IsSome}
use Rattle.board_model.specs.declared.scenario.Scenario.{Scenario}
use Rattle.board_model.specs.Report.{threads}
use Rattle.board_runner.specs.declared.outcome.Outcome.{Outcome}
use Rattle.board_runner.specs.RingLines.{outcome_report}
use Rattle.call_actor.specs.CallActors.{gots_of_actor, service_of_actor}
use Rattle.call_actor.specs.declared.call_actor.CallActor.{CallActor}
use Rattle.call_logs.specs.declared.got.Got.{Got}
use Rattle.call_report.specs.CallsText.{calls_text}
use Rattle.call_service.specs.Handled.{State}
use Rattle.call_service.specs.declared.carried.Carried.{Carried}

abbrev pub service_held : Option CallActor → Option State
service_held None = None
service_held (Some a) = service_of_actor a

abbrev pub history_held : Option State → List Carried
history_held None = []
history_held (Some service) = service.history

abbrev pub gots_held : Option CallActor → List Got
gots_held None = []
gots_held (Some a) = gots_of_actor a

-- the service of the server, and what the actor of a domain got
abbrev pub service_at_server : List CallActor → Option State
service_at_server actors = service_held (slice_get actors 0)

abbrev pub gots_at : List CallActor → ℕ → List Got
gots_at actors d = gots_held (slice_get actors d)

abbrev pub actor_lines : ℕ → List CallActor → List ℕ
actor_lines clients actors = calls_text clients (history_held (service_at_server actors)) (gots_at actors)

-- there are the server and an actor for each client
pub record AreOfCalls (clients : ℕ) (actors : List CallActor) : Type 0 where
  pub counted : length actors ≡ clients + 1
  pub server : IsSome (service_at_server actors)

-- behind the report of what their run left
unfoldable pub calls_report : ℕ → Scenario → Outcome → List CallActor → List ℕ
calls_report clients s o actors = outcome_report threads s o ++ actor_lines clients actors
