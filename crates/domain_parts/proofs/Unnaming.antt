-- The state but for the names of frames: what a domain may do is the same there, and so is what it counts.
use Rattle.std.proofs.Common.{◌≡◌, ℕ, List, Option, Some, None, refl, ap, ap₂, ◌∙◌, subst}
use Rattle.std.specs.Prelude.{option_map}
use Rattle.board_model.specs.Answer.{unless_refused}
use Rattle.board_model.specs.CallChanges.{call_changes, effect}
use Rattle.board_model.specs.Change.{changed_all}
use Rattle.board_model.specs.Deeds.{after_deeds, AllMayDo}
use Rattle.board_model.specs.DomainCall.{DomainCall, cancel_of, test_of, wait_for}
use Rattle.board_model.specs.Journal.{Visit}
use Rattle.board_model.specs.State.{DomainState, LentPacket, packet_at_place}
use Rattle.board_model.specs.Turn.{nameless, visit_deeds}
use Rattle.board_model.specs.Unnamed.{no_names, unnamed, unnamed_packet}
use Rattle.board_model.proofs.ListsMapped.{option-map-map}
use Rattle.board_model.proofs.RenamedCalls.{call-renamed, first-renamed, packet-renamed, refusal-renamed}
use Rattle.board_model.proofs.RenamedChanges.{renamed-all}
use Rattle.board_model.proofs.UnnamedDeeds.{all-unnamed, deeds-unnamed, visit-unnamed}
use Rattle.domain_parts.specs.Calls.{brings_whole, gives_whole, place_ended, place_released, success_ends, success_releases}
use Rattle.domain_parts.specs.NumberedDeeds.{number_in, numbered_deeds}

-- ---- visits

-- a visit that names its frames is one that names none
pub visit-may : (t : DomainState) (v : Visit) (numbers : List ℕ) → AllMayDo t (numbered_deeds v numbers) → AllMayDo (unnamed t) (visit_deeds nameless v)
visit-may t v numbers may = subst (AllMayDo (unnamed t)) (visit-unnamed (number_in numbers) v) (all-unnamed t (numbered_deeds v numbers) may)

pub visit-numbered : (t : DomainState) (v : Visit) (numbers : List ℕ) → unnamed (after_deeds t (numbered_deeds v numbers)) ≡ after_deeds (unnamed t) (visit_deeds nameless v)
visit-numbered t v numbers = deeds-unnamed t (numbered_deeds v numbers) ∙ ap (after_deeds (unnamed t)) (visit-unnamed (number_in numbers) v)

-- ---- lent packets and requests

gives_unnamed : (o : Option LentPacket) → gives_whole (option_map unnamed_packet o) ≡ gives_whole o
gives_unnamed None = refl
gives_unnamed (Some p) = refl

brings_unnamed : (o : Option LentPacket) → brings_whole (option_map unnamed_packet o) ≡ brings_whole o
brings_unnamed None = refl
brings_unnamed (Some p) = refl

pub lent-gives : (s : DomainState) (place : Option ℕ) → gives_whole (packet_at_place (unnamed s) place) ≡ gives_whole (packet_at_place s place)
lent-gives s place = ap gives_whole (packet-renamed no_names s place) ∙ gives_unnamed (packet_at_place s place)

pub lent-brings : (s : DomainState) (place : Option ℕ) → brings_whole (packet_at_place (unnamed s) place) ≡ brings_whole (packet_at_place s place)
lent-brings s place = ap brings_whole (packet-renamed no_names s place) ∙ brings_unnamed (packet_at_place s place)

pub lent-content : (s : DomainState) (place : Option ℕ) → option_map (λ (p : LentPacket). p.item.content) (packet_at_place (unnamed s) place) ≡ option_map (λ (p : LentPacket). p.item.content) (packet_at_place s place)
lent-content s place = ap (option_map (λ (p : LentPacket). p.item.content)) (packet-renamed no_names s place) ∙ option-map-map (λ (p : LentPacket). p.item.content) unnamed_packet (packet_at_place s place)

pub none-lent : (s : DomainState) (place : Option ℕ) → packet_at_place s place ≡ None → packet_at_place (unnamed s) place ≡ None
none-lent s place none = packet-renamed no_names s place ∙ ap (option_map unnamed_packet) none

-- ---- calls

module _ (s : DomainState) (node : ℕ) (call : DomainCall) where
  pub effect-unnamed : unnamed (effect s node call) ≡ effect (unnamed s) node call
  effect-unnamed = renamed-all no_names s (call_changes s node call) ∙ ap (changed_all (unnamed s)) (call-renamed no_names s node call)

  ends_unnamed_by : (c : DomainCall) → success_ends (unnamed s) c ≡ success_ends s c
  ends_unnamed_by (wait_for places says_place) = first-renamed no_names s places
  ends_unnamed_by (test_of place) = refl
  ends_unnamed_by (cancel_of place) = refl
  ends_unnamed_by other = refl

  pub ended-unnamed : place_ended (unnamed s) node call ≡ place_ended s node call
  ended-unnamed = ap₂ (λ o p. unless_refused o None p) (refusal-renamed no_names s node call) (ends_unnamed_by call)

  pub released-unnamed : place_released (unnamed s) node call ≡ place_released s node call
  released-unnamed = ap (λ o. unless_refused o None (success_releases call)) (refusal-renamed no_names s node call)
