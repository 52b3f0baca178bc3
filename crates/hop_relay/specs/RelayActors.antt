-- The actors of a relay: each is the first domain, one between or the last.
-- Source: docs/PROFILE.md, "Relays" and "Actors".
use Rattle.std.specs.Prelude.{◌≡◌, ℕ, ◌<◌, ◌^◌, List, [], ◌∷◌, Option, None}
use Rattle.board_model.specs.declared.scenario.CallLine.{CallLine}
use Rattle.board_model.specs.Logs.{LoggedCall}
use Rattle.hop_relay.specs.declared.relay_actor.RelayActor.{RelayActor}
use Rattle.hop_relay.specs.declared.relay_actor.RelayActor.TheVariants.{First, Middle, Last}
use Rattle.hop_relay.specs.declared.role.Role.{Role}
use Rattle.hop_relay.specs.declared.role.Role.TheVariants as role
use Rattle.hop_relay.specs.Places.{as_first, as_middle, as_last, place_of_first, place_of_taker}
use Rattle.hop_relay.specs.RelayBoard.{role_of}
use Rattle.hop_relay.specs.Roles.{HasEnded}
use Rattle.hop_relay.specs.Steps.{FitsRelay, Place, left_to_ask, packet_limit}

abbrev pub role_of_actor : RelayActor → Role
role_of_actor (First f) = as_first f
role_of_actor (Middle m) = as_middle m.taker
role_of_actor (Last l) = as_last l.taker

abbrev pub place_of_actor : RelayActor → Place
place_of_actor (First f) = place_of_first f
place_of_actor (Middle m) = place_of_taker m.taker
place_of_actor (Last l) = place_of_taker l.taker

abbrev pub line_asked : RelayActor → Option CallLine
line_asked (First f) = f.progress.asked.value
line_asked (Middle m) = m.taker.progress.asked.value
line_asked (Last l) = l.taker.progress.asked.value

abbrev pub domain_of_role : Role → ℕ
domain_of_role (role.First packets) = 0
domain_of_role (role.Middle d most) = d
domain_of_role (role.Last d most) = d

abbrev pub most_of_role : Role → ℕ
most_of_role (role.First packets) = 0
most_of_role (role.Middle d most) = most
most_of_role (role.Last d most) = most

abbrev pub todo_of_actor : RelayActor → ℕ
todo_of_actor a = left_to_ask (most_of_role (role_of_actor a)) (place_of_actor a)

-- the log fits the role of the actor, what was asked is due, and what the actor holds is what the rules make of the log
abbrev pub FitsActor : RelayActor → List LoggedCall → Type 0
FitsActor a log = FitsRelay (role_of_actor a) (place_of_actor a) (line_asked a) log

abbrev pub EndsActor : RelayActor → List LoggedCall → Type 0
EndsActor a log = HasEnded (role_of_actor a) log

-- an actor of this role before its first line, with few lines to come
pub record IsNew (r : Role) (a : RelayActor) : Type 0 where
  pub role : role_of_actor a ≡ r
  pub asked : line_asked a ≡ None
  pub fits : FitsActor a []
  pub few : todo_of_actor a < 2 ^ 29

-- a new actor for each of these domains, in their order, of the role of its number
abbrev pub AreNew : List (List ℕ) → (hops : ℕ) → List ℕ → List RelayActor → Type 0
AreNew packets hops [] [] = Unit {0}
AreNew packets hops (d ∷ ds) (a ∷ actors) = IsNew (role_of packets hops packet_limit d) a × AreNew packets hops ds actors
AreNew packets hops ds actors = ⊥
