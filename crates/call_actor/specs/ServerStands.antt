-- That the server stands where its log leads.
-- Source: the code of the server.
use Rattle.std.specs.Prelude.{◌≡◌, ℕ, ◌+◌, ◌-◌, ◌≤◌, ◌<◌, false, ◌==◌, List, [], ◌∷◌, length, drop, filter_map, slice_get, Option, Some, None}
use Rattle.std.specs.List.{flat_map, list_any}
use Rattle.board_model.specs.declared.scenario.CallLine.{CallLine}
use Rattle.board_model.specs.Logs.{LoggedCall}
use Rattle.call_service.specs.Served.{rising}
use Rattle.call_logs.specs.LogMessages.{contents_received}
use Rattle.call_logs.specs.Following.{is_refused}
use Rattle.call_logs.specs.CallBytes.{bye_in}
use Rattle.call_logs.specs.Roles.{Role, server, finding, receive_line, reply_line, server_opening, handled_all, due, FitsRole}
use Rattle.call_actor.specs.declared.place.ServerPlace.{ServerPlace}
use Rattle.call_actor.specs.declared.place.ServerPlace.TheVariants.{New, Created, LookedUp, Waited, Receiving, Replying, Ended}
use Rattle.call_actor.specs.declared.rules.ServerRole.{ServerRole}
use Rattle.call_actor.specs.ServerLimits.{limit}
use Rattle.call_actor.specs.ServerLabels.{label_for}
use Rattle.call_actor.specs.ServerSteps.{Held, create_line, lookup_line, wait_line}

abbrev pub role_of : ServerRole → Role
role_of c = server c.clients c.repeat c.calls

-- ---- what it holds

-- it holds what these messages come to
pub record Holds (c : ServerRole) (held : Held) (messages : List (List ℕ)) : Type 0 where
  pub service : held.service ≡ (handled_all c.calls messages).service
  pub reply : held.reply ≡ (handled_all c.calls messages).reply
  pub received : held.received ≡ length messages
  pub left : (d : ℕ) → d < 8 → slice_get held.left d ≡ Some (list_any (λ k. k == d) (filter_map bye_in messages))

-- ---- the lines of the opening, from the one asked for on

abbrev pub finding_from : ServerRole → ℕ → List CallLine
finding_from c d = flat_map (λ k. finding 0 (label_for k) k) (rising d (c.clients + 1 - d))

abbrev pub lines_from : ServerRole → ServerPlace → List CallLine
lines_from c Created = server_opening c.clients
lines_from c (LookedUp d) = lookup_line d ∷ wait_line d ∷ finding_from c (d + 1)
lines_from c (Waited d) = wait_line d ∷ finding_from c (d + 1)
lines_from c place = []

-- the line asked for at a place
abbrev pub IsLineAt : ServerPlace → CallLine → Type 0
IsLineAt Created line = line ≡ create_line
IsLineAt (LookedUp d) line = line ≡ lookup_line d
IsLineAt (Waited d) line = line ≡ wait_line d
IsLineAt Receiving line = line ≡ receive_line 0
IsLineAt Replying line = (to : ℕ) × (bytes : List ℕ) × (line ≡ reply_line to bytes)
IsLineAt place line = ⊥

-- ---- where it stands

-- the client at a place is one, and the messages are no more than may come, or one more at the end
abbrev pub client_some : ServerPlace → ℕ
client_some (LookedUp d) = d
client_some (Waited d) = d
client_some place = 1

abbrev pub client_most : ServerPlace → ℕ
client_most (LookedUp d) = d
client_most (Waited d) = d
client_most place = 0

abbrev pub messages_most : ServerRole → ServerPlace → ℕ
messages_most c Ended = limit c + 1
messages_most c place = limit c

abbrev pub IsWithin : ServerRole → ServerPlace → Held → Type 0
IsWithin c place held = (1 ≤ client_some place) × (client_most place ≤ c.clients) × (held.received ≤ messages_most c place)

pub record IsAsked (c : ServerRole) (place : ServerPlace) (line : CallLine) (log : List LoggedCall) : Type 0 where
  pub line_is : IsLineAt place line
  pub due_is : due (role_of c) log ≡ Some line
  pub later : drop (length log) (server_opening c.clients) ≡ lines_from c place
  pub none_refused : list_any (λ (l : LoggedCall). is_refused l.answer) log ≡ false

abbrev pub Stands : ServerRole → ServerPlace → Option CallLine → List LoggedCall → Type 0
Stands c place (Some line) log = IsAsked c place line log
Stands c New None log = log ≡ []
Stands c Ended None log = due (role_of c) log ≡ None
Stands c place None log = ⊥

pub record ServerFits (c : ServerRole) (place : ServerPlace) (held : Held) (asked : Option CallLine) (log : List LoggedCall) : Type 0 where
  pub fits : FitsRole (role_of c) log
  pub holds : Holds c held (contents_received log)
  pub stands : Stands c place asked log
