-- The board of numbered calls, and its actors before their first lines.
-- Source: docs/PROFILE.md, "Numbered calls on a board".
use Rattle.std.specs.Prelude.{◌≡◌, ℕ, zero, suc, ◌+◌, List, [], ◌∷◌, length, map}
use Rattle.board_model.specs.declared.scenario.DomainLine.{DomainLine}
use Rattle.board_model.specs.declared.scenario.LinkLine.{LinkLine}
use Rattle.board_model.specs.declared.scenario.Scenario.{Scenario}
use Rattle.call_service.specs.Served.{rising}
use Rattle.call_logs.specs.declared.numbered.NumberedCall.{NumberedCall}
use Rattle.call_logs.specs.CallsBoard.{CallBoard, calls_of_client}
use Rattle.call_actor.specs.declared.call_actor.CallActor.{CallActor}
use Rattle.call_actor.specs.declared.role.CallRole.{CallRole}
use Rattle.call_actor.specs.declared.role.CallRole.TheVariants.{Client, Server}
use Rattle.call_actor.specs.CallActors.{IsNew}

-- ---- the board

abbrev pub call_domain : ℕ → DomainLine
call_domain d = record { domain = d; nodes = 1; pool = 2 }

-- from the server to a client, with rings of this size
abbrev pub call_link : ℕ → ℕ → LinkLine
call_link size client = record { driver = 0; device = client; size = size }

-- the server and so many clients, and a link to each client. The call lines are left open
pub record IsCallsBoard (clients size : ℕ) (s : Scenario) : Type 0 where
  pub domains : s.domains ≡ map call_domain (rising 0 (clients + 1))
  pub links : s.links ≡ map (call_link size) (rising 1 clients)

-- ---- what there is to do

abbrev pub board_of : (clients repeat : ℕ) → List NumberedCall → CallBoard
board_of clients repeat calls = record { clients = clients; repeat = repeat; calls = calls }

-- what the actor of a domain is made from
abbrev pub call_role_of : CallBoard → ℕ → CallRole
call_role_of b zero = Server b.clients b.repeat (length b.calls)
call_role_of b (suc n) = Client (suc n) b.repeat (calls_of_client b (suc n))

-- there is a new actor for each of these domains, in their order
abbrev pub AreNew : CallBoard → List ℕ → List CallActor → Type 0
AreNew b [] [] = Unit {0}
AreNew b (d ∷ ds) (a ∷ actors) = IsNew (call_role_of b d) a × AreNew b ds actors
AreNew b ds actors = ⊥
