-- The actors of numbered calls: each is a client or the server.
-- Source: docs/PROFILE.md, "Numbered calls on a board" and "Actors".
use Rattle.std.specs.Prelude.{◌≡◌, ℕ, ◌<◌, ◌^◌, List, [], length, Option, Some, None}
use Rattle.board_model.specs.declared.scenario.CallLine.{CallLine}
use Rattle.board_model.specs.Logs.{LoggedCall}
use Rattle.call_service.specs.Handled.{State}
use Rattle.call_logs.specs.declared.got.Got.{Got}
use Rattle.call_logs.specs.Roles.{HasEnded}
use Rattle.call_actor.specs.declared.call_actor.CallActor.{CallActor}
use Rattle.call_actor.specs.declared.call_actor.CallActor.TheVariants.{Client, Server}
use Rattle.call_actor.specs.declared.role.CallRole.{CallRole}
use Rattle.call_actor.specs.CallRoles.{client_role, server_role, plain_role}
use Rattle.call_actor.specs.ClientStands.{ClientFits}
use Rattle.call_actor.specs.LinesLeft.{left_of_client, left_of_server}
use Rattle.call_actor.specs.ServerStands.{ServerFits}

abbrev pub role_of_actor : CallActor → CallRole
role_of_actor (Client c) = client_role c.task
role_of_actor (Server s) = server_role s.role

abbrev pub line_asked : CallActor → Option CallLine
line_asked (Client c) = c.asked.value
line_asked (Server s) = s.asked.value

abbrev pub todo_of_actor : CallActor → ℕ
todo_of_actor (Client c) = left_of_client (length c.task.calls) c.place
todo_of_actor (Server s) = left_of_server s.role s.place s.desk.received

-- the log fits the role of the actor, what was asked is due, and what the actor holds is what the rules make of the log: the server's service
-- handled the messages that the log received, and a client has the got lines of the log
abbrev pub FitsActor : CallActor → List LoggedCall → Type 0
FitsActor (Client c) log = ClientFits c.task c.place c.first c.gots.items c.asked.value log
FitsActor (Server s) log = ServerFits s.role s.place s.desk s.asked.value log

abbrev pub EndsActor : CallActor → List LoggedCall → Type 0
EndsActor a log = HasEnded (plain_role (role_of_actor a)) log

-- the service of the server
abbrev pub service_of_actor : CallActor → Option State
service_of_actor (Client c) = None
service_of_actor (Server s) = Some s.desk.service

-- what a client got of its calls
abbrev pub gots_of_actor : CallActor → List Got
gots_of_actor (Client c) = c.gots.items
gots_of_actor (Server s) = []

-- an actor of this role before its first line, with few lines to come
pub record IsNew (r : CallRole) (a : CallActor) : Type 0 where
  pub role : role_of_actor a ≡ r
  pub asked : line_asked a ≡ None
  pub fits : FitsActor a []
  pub few : todo_of_actor a < 2 ^ 29
