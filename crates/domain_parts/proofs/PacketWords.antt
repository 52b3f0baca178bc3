-- The words of the calls that receive and request packets.
use Rattle.std.proofs.Common.{◌≡◌, ℕ, Bool, true, false, cond, length, Option, Some, None, sym, ap, ◌∙◌}
use Rattle.std.specs.Prelude.{Err, Ok, nat_le, ◌==◌}
use Rattle.mc_base.specs.Limits.{request_limit}
use Rattle.mc_base.specs.declared.channel.Kind.TheVariants.{Packet}
use Rattle.mc_base.specs.declared.name.Local.{Local}
use Rattle.mc_base.specs.declared.refusal.Refusal.{Refusal}
use Rattle.mc_base.specs.declared.refusal.Refusal.TheVariants.{Empty, RequestLimit}
use Rattle.board_model.specs.Answer.{channel_at, refusal}
use Rattle.board_model.specs.ChannelEnds.{end_refusal, receives}
use Rattle.board_model.specs.DomainCall.{lend_at, packet_request_at}
use Rattle.board_model.specs.State.{ChannelEnd, DomainState, place_at, queue_at}
use Rattle.packet_channel.specs.End.{may}
use Rattle.domain_parts.proofs.Channels.{answered-none, answered-word, data-words, or_then}

module _ (s : DomainState) (at : Local) (i : ℕ) (c : ChannelEnd) (there : place_at s at ≡ Some i) (has : channel_at s at ≡ Some c) (queued : ℕ) (count : queued ≡ length (queue_at s at)) where
  abbrev lend_rest : Option Refusal
  lend_rest = cond (length (queue_at s at) == 0) (Some Empty) None

  abbrev request_rest : Option Refusal
  request_rest = cond (nat_le request_limit (length s.requests)) (Some RequestLimit) None

  lend-words : refusal s at.node (lend_at at.port) ≡ or_then (end_refusal (receives Packet queued) (Some c)) lend_rest
  lend-words = data-words s at.node at.port i c there has (receives Packet (length (queue_at s at))) lend_rest ∙ ap (λ (n : ℕ). or_then (end_refusal (receives Packet n) (Some c)) lend_rest) (sym count)

  request-words : refusal s at.node (packet_request_at at.port) ≡ or_then (end_refusal (receives Packet queued) (Some c)) request_rest
  request-words = data-words s at.node at.port i c there has (receives Packet (length (queue_at s at))) request_rest ∙ ap (λ (n : ℕ). or_then (end_refusal (receives Packet n) (Some c)) request_rest) (sym count)

  -- where the end refuses
  module _ (word : Refusal) (is : Err word ≡ may (receives Packet queued) c) where
    pub lend-refused : refusal s at.node (lend_at at.port) ≡ Some word
    lend-refused = lend-words ∙ ap (λ (o : Option Refusal). or_then o lend_rest) (answered-word _ word is)

    pub request-refused : refusal s at.node (packet_request_at at.port) ≡ Some word
    request-refused = request-words ∙ ap (λ (o : Option Refusal). or_then o request_rest) (answered-word _ word is)

  -- and where it does not
  module _ (may_do : Ok tt ≡ may (receives Packet queued) c) where
    lend-left : refusal s at.node (lend_at at.port) ≡ lend_rest
    lend-left = lend-words ∙ ap (λ (o : Option Refusal). or_then o lend_rest) (answered-none _ may_do)

    pub lend-empty : (length (queue_at s at) == 0) ≡ true → refusal s at.node (lend_at at.port) ≡ Some Empty
    lend-empty none = lend-left ∙ ap (λ (b : Bool). cond b (Some Empty) None) none

    pub lend-done : (length (queue_at s at) == 0) ≡ false → refusal s at.node (lend_at at.port) ≡ None
    lend-done some = lend-left ∙ ap (λ (b : Bool). cond b (Some Empty) None) some

    request-left : refusal s at.node (packet_request_at at.port) ≡ request_rest
    request-left = request-words ∙ ap (λ (o : Option Refusal). or_then o request_rest) (answered-none _ may_do)

    pub request-full : nat_le request_limit (length s.requests) ≡ true → refusal s at.node (packet_request_at at.port) ≡ Some RequestLimit
    request-full full = request-left ∙ ap (λ (b : Bool). cond b (Some RequestLimit) None) full

    pub request-done : nat_le request_limit (length s.requests) ≡ false → refusal s at.node (packet_request_at at.port) ≡ None
    request-done room = request-left ∙ ap (λ (b : Bool). cond b (Some RequestLimit) None) room
