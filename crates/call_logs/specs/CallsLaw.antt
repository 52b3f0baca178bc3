-- The law of numbered calls: what holds of the server's history and of what the clients got, in every run of a board of linked domains in which
-- each domain's log fits its role.
-- Source: docs/PROFILE.md, "Numbered calls on a board".
use Rattle.std.specs.Prelude.{◌≡◌, ℕ, ◌==◌, List, [], ◌∷◌, map, filter, length}
use Rattle.std.specs.List.{AllByRecursion}
use Rattle.board_model.specs.declared.scenario.Scenario.{Scenario}
use Rattle.board_model.specs.Lists.{IsPrefix}
use Rattle.board_model.specs.Board.{DomainJournal}
use Rattle.call_service.specs.declared.carried.Carried.{Carried}
use Rattle.call_service.specs.Bytes.{status_byte}
use Rattle.call_service.specs.Served.{calls_of, reply_of, rising}
use Rattle.call_logs.specs.LogMessages.{contents_received}
use Rattle.call_logs.specs.MessageDeeds.{log_at}
use Rattle.call_logs.specs.declared.got.Got.{Got}
use Rattle.call_logs.specs.Roles.{got_lines, handled_all}
use Rattle.call_logs.specs.CallsBoard.{CallBoard, IsCallBoard, IsCallsRun, calls_of_client, role_of, carried_calls}

-- the calls of a client that were carried out: the first of its calls, in order, numbered from 1, so each once
pub record CarriedInOrder (h : List Carried) (client : ℕ) (calls : List (ℕ × ℕ)) : Type 0 where
  pub calls_first : IsPrefix (map (λ e. (e.cell, e.amount)) (calls_of client h)) calls
  pub numbered : map (λ e. e.number) (calls_of client h) ≡ rising 1 (length (calls_of client h))

abbrev pub CallsAreCarriedInOrder : Type 0
CallsAreCarriedInOrder =
    (board : CallBoard) (s : Scenario) (js : List DomainJournal) → IsCallBoard board → IsCallsRun board s js
    → (d : ℕ) → CarriedInOrder (carried_calls s js) d (calls_of_client board d)

-- the server's service never lacks room: what it carried out is the history of all requests
abbrev pub NoCallLacksRoom : Type 0
NoCallLacksRoom =
    (board : CallBoard) (s : Scenario) (js : List DomainJournal) → IsCallBoard board → IsCallsRun board s js
    → (handled_all (length board.calls) (contents_received (log_at s js 0))).service.history ≡ carried_calls s js

-- what a client got of a call: the status and the value of the one call with its client and number that was carried out
pub record IsOfCarried (h : List Carried) (client : ℕ) (g : Got) : Type 0 where
  pub call : Carried
  pub is_carried : filter (λ e. e.number == g.number) (calls_of client h) ≡ call ∷ []
  pub status : g.status ≡ status_byte (reply_of call).status
  pub value : g.value ≡ call.value

pub record GotInOrder (h : List Carried) (client : ℕ) (gots : List Got) : Type 0 where
  pub numbered : map (λ g. g.number) gots ≡ rising 1 (length gots)
  pub carried : AllByRecursion (IsOfCarried h client) gots

abbrev pub ClientsGetWhatWasCarried : Type 0
ClientsGetWhatWasCarried =
    (board : CallBoard) (s : Scenario) (js : List DomainJournal) → IsCallBoard board → IsCallsRun board s js
    → (d : ℕ) → GotInOrder (carried_calls s js) d (got_lines (role_of board d) (log_at s js d))
