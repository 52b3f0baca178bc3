-- The packet that a call lends is the same in a state whose frames have other names.
use Rattle.std.proofs.Common.{◌≡◌, ℕ, Option, Some, None, refl, ap, ap₂, ◌∙◌}
use Rattle.std.specs.Prelude.{option_map}
use Rattle.board_model.specs.Answer.{first_complete, unless_refused}
use Rattle.board_model.specs.DomainCall.{DomainCall, lend_at, test_of, wait_for}
use Rattle.board_model.specs.Labels.{packet_brought, packet_given, packet_tested, success_packet}
use Rattle.board_model.specs.Renamed.{renamed, renamed_outcome, renamed_request}
use Rattle.board_model.specs.State.{Asked, DomainState, Outcome, Request, channel_of, has_address, has_ended, has_item, is_accepted, is_rejected, message_at, name_of, packet_at, request_at_place}
use Rattle.board_model.proofs.RenamedCalls.{first-renamed, refusal-renamed, request-renamed}

module _ (names : ℕ → ℕ → ℕ) (s : DomainState) where
  tested_renamed : (o : Option Request) → packet_tested (renamed names s) (option_map (renamed_request names) o) ≡ packet_tested s o
  tested_renamed None = refl
  tested_renamed (Some r) = go r.asked r.outcome
    where
      go : (a : Asked) (o : Option Outcome) → packet_brought (renamed names s) a (option_map (renamed_outcome names) o) ≡ packet_brought s a o
      go (name_of n) o = refl
      go (channel_of n) o = refl
      go (message_at at max) o = refl
      go (packet_at at) None = refl
      go (packet_at at) (Some (has_address a)) = refl
      go (packet_at at) (Some is_accepted) = refl
      go (packet_at at) (Some (is_rejected reason)) = refl
      go (packet_at at) (Some (has_item i)) = refl
      go (packet_at at) (Some (has_ended word)) = refl

  packets_renamed : (call : DomainCall) → success_packet (renamed names s) call ≡ success_packet s call
  packets_renamed (lend_at port) = refl
  packets_renamed (test_of place) = ap (packet_tested (renamed names s)) (request-renamed names s place) ∙ tested_renamed (request_at_place s place)
  packets_renamed (wait_for places says_place) =
      ap (λ p. packet_tested (renamed names s) (request_at_place (renamed names s) p)) (first-renamed names s places)
      ∙ (ap (packet_tested (renamed names s)) (request-renamed names s (first_complete s places))
      ∙ tested_renamed (request_at_place s (first_complete s places)))
  packets_renamed other = refl

  pub given-renamed : (node : ℕ) (call : DomainCall) → packet_given (renamed names s) node call ≡ packet_given s node call
  given-renamed node call = ap₂ (λ o p. unless_refused o None p) (refusal-renamed names s node call) (packets_renamed call)
