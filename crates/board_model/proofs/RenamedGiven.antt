-- What a call gives back in a state whose frames have other names: the same items, by their new names.
use Rattle.std.proofs.Common.{◌≡◌, ℕ, List, [], map, Option, Some, None, refl, ap, ap₂, ◌∙◌}
use Rattle.std.specs.Prelude.{option_map, option_to_list}
use Rattle.mc_base.specs.declared.name.Local.{Local}
use Rattle.mc_base.specs.declared.channel.Side.TheVariants.{Sender, Receiver}
use Rattle.mc_base.specs.declared.refusal.Refusal.{Refusal}
use Rattle.board_model.specs.State.{Item, Endpoint, name_of, channel_of, message_at, packet_at, Asked, Outcome, has_address, is_accepted, is_rejected, has_item, has_ended, item_in, Request, LentPacket, DomainState, live_at, request_at_place, packet_at_place}
use Rattle.board_model.specs.Renamed.{renamed, renamed_end, renamed_item, renamed_outcome, renamed_packet, renamed_request}
use Rattle.board_model.specs.Choice.{oldest}
use Rattle.board_model.specs.DomainCall.{DomainCall, delete_at, receive_at, release_of, scalar_at, close_at, test_of, wait_for}
use Rattle.board_model.specs.Answer.{first_complete, local, refusal, unless_refused}
use Rattle.board_model.specs.CallChanges.{at_live, best_item, item_lent, message_held, held_by, success_returned, returned}
use Rattle.board_model.proofs.RenamedChanges.{live-renamed}
use Rattle.board_model.proofs.RenamedCalls.{best-renamed, first-renamed, packet-renamed, refusal-renamed, request-renamed, oldest-renamed}

module _ (names : ℕ → ℕ → ℕ) where
  live_renamed : (t : DomainState) (at : Local) (f : Endpoint → List Item) → ((e : Endpoint) → f (renamed_end names e) ≡ map (renamed_item names) (f e)) → at_live (live_at (renamed names t) at) f ≡ map (renamed_item names) (at_live (live_at t at) f)
  live_renamed t at f same = ap (λ o. at_live o f) (live-renamed names t at) ∙ go (live_at t at)
    where
      go : (o : Option Endpoint) → at_live (option_map (renamed_end names) o) f ≡ map (renamed_item names) (at_live o f)
      go None = refl
      go (Some e) = same e

  same_best : (o : Option Item) → option_to_list (option_map (renamed_item names) o) ≡ map (renamed_item names) (option_to_list o)
  same_best None = refl
  same_best (Some i) = refl

  same_outcome : (o : Option Outcome) → item_in (option_map (renamed_outcome names) o) ≡ map (renamed_item names) (item_in o)
  same_outcome None = refl
  same_outcome (Some (has_address a)) = refl
  same_outcome (Some is_accepted) = refl
  same_outcome (Some (is_rejected reason)) = refl
  same_outcome (Some (has_item i)) = refl
  same_outcome (Some (has_ended word)) = refl

  same_message : (asked : Asked) (o : Option Outcome) → message_held asked (option_map (renamed_outcome names) o) ≡ map (renamed_item names) (message_held asked o)
  same_message (packet_at at) o = refl
  same_message (name_of n) o = same_outcome o
  same_message (channel_of n) o = same_outcome o
  same_message (message_at at max) o = same_outcome o

  same_packet : (o : Option LentPacket) → item_lent (option_map (renamed_packet names) o) ≡ map (renamed_item names) (item_lent o)
  same_packet None = refl
  same_packet (Some p) = refl

  same_held : (o : Option Request) → held_by (option_map (renamed_request names) o) ≡ map (renamed_item names) (held_by o)
  same_held None = refl
  same_held (Some r) = same_message r.asked r.outcome

  module _ (t : DomainState) (node : ℕ) where
    success_renamed : (call : DomainCall) → success_returned (renamed names t) node call ≡ map (renamed_item names) (success_returned t node call)
    success_renamed (delete_at port) = live_renamed t (local node port) (λ e. e.queue) (λ e. refl)
    success_renamed (receive_at port max) = live_renamed t (local node port) (λ e. option_to_list (best_item e)) (λ e. ap option_to_list (best-renamed names e.queue) ∙ same_best (best_item e))
    success_renamed (release_of place) = ap item_lent (packet-renamed names t place) ∙ same_packet (packet_at_place t place)
    success_renamed (scalar_at port bits) = live_renamed t (local node port) (λ e. option_to_list (oldest e.queue)) (λ e. ap option_to_list (oldest-renamed names e.queue) ∙ same_best (oldest e.queue))
    success_renamed (close_at port Sender) = refl
    success_renamed (close_at port Receiver) = live_renamed t (local node port) (λ e. e.queue) (λ e. refl)
    success_renamed (test_of request) = ap held_by (request-renamed names t request) ∙ same_held (request_at_place t request)
    success_renamed (wait_for requests says_place) =
        ap (λ p. held_by (request_at_place (renamed names t) p)) (first-renamed names t requests)
        ∙ (ap held_by (request-renamed names t (first_complete t requests)) ∙ same_held (request_at_place t (first_complete t requests)))
    success_renamed other = refl

    pub returned-renamed : (call : DomainCall) → returned (renamed names t) node call ≡ map (renamed_item names) (returned t node call)
    returned-renamed call = ap₂ (λ o items. unless_refused o [] items) (refusal-renamed names t node call) (success_renamed call) ∙ go (refusal t node call)
      where
        go : (o : Option Refusal) → unless_refused o [] (map (renamed_item names) (success_returned t node call)) ≡ map (renamed_item names) (unless_refused o [] (success_returned t node call))
        go None = refl
        go (Some word) = refl
