-- A board of numbered calls: the calls of its clients, the roles of its domains, and its runs in which each domain's log fits its role.
-- Source: docs/PROFILE.md, "Numbered calls on a board".
use Rattle.std.specs.Prelude.{ℕ, zero, suc, ◌≤◌, ◌<◌, ◌^◌, ◌==◌, List, map, filter, length}
use Rattle.std.specs.List.{AllByRecursion}
use Rattle.board_model.specs.declared.scenario.Scenario.{Scenario}
use Rattle.board_model.specs.LinkedBoard.{IsLinkedBoard}
use Rattle.board_model.specs.Board.{DomainJournal, IsBoardRun}
use Rattle.call_service.specs.declared.carried.Carried.{Carried}
use Rattle.call_service.specs.Served.{history}
use Rattle.call_logs.specs.declared.numbered.NumberedCall.{NumberedCall}
use Rattle.call_logs.specs.MessageDeeds.{log_at}
use Rattle.call_logs.specs.Roles.{Role, client, server, FitsRole, requests_received}

-- what there is to do: for how many clients, how often each request is sent, and the calls of all clients
pub record CallBoard : Type 0 where
  pub clients : ℕ
  pub repeat : ℕ
  pub calls : List NumberedCall

-- the calls of one client, in order
abbrev pub calls_of_client : CallBoard → ℕ → List (ℕ × ℕ)
calls_of_client board d = map (λ k. (k.cell, k.amount)) (filter (λ k. k.client == d) board.calls)

-- the role of a domain: 0 is the server
abbrev pub role_of : CallBoard → ℕ → Role
role_of board zero = server board.clients board.repeat (length board.calls)
role_of board (suc n) = client (suc n) board.repeat (calls_of_client board (suc n))

-- a call of one of the clients, with a cell and an amount in their ranges
pub record IsCall (clients : ℕ) (k : NumberedCall) : Type 0 where
  pub some_client : 1 ≤ k.client
  pub its_client : k.client ≤ clients
  pub cell : k.cell < 16
  pub amount : k.amount < 2 ^ 64

pub record IsCallBoard (board : CallBoard) : Type 0 where
  pub few_clients : board.clients < 8
  pub calls : AllByRecursion (IsCall board.clients) board.calls
  pub few_calls : length board.calls < 2 ^ 32

-- a run of a board of linked domains in which each domain's log fits its role
pub record IsCallsRun (board : CallBoard) (s : Scenario) (js : List DomainJournal) : Type 0 where
  pub linked : IsLinkedBoard s
  pub run : IsBoardRun s js
  pub fits : (d : ℕ) → FitsRole (role_of board d) (log_at s js d)

-- what the server carried out: the history of the requests that its log received
abbrev pub carried_calls : Scenario → List DomainJournal → List Carried
carried_calls s js = history (requests_received (log_at s js 0))
