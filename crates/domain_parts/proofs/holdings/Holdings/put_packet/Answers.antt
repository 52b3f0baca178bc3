use Rattle.std.proofs.Common.{◌≡◌, ◌∙◌, ℕ, List, Some, None, ap, cond, false, true, sym, refl, subst, rules}
use Rattle.std.specs.Prelude.{Err, nat_lt, length, ◌||◌}
use Rattle.mc_base.specs.Letter.{PlainLetter, packet}
use Rattle.mc_base.specs.Limits.{item_size}
use Rattle.mc_base.specs.declared.refusal.Refusal.TheVariants.{NoBuffer, PktSize}
use Rattle.board_model.specs.Answer.{Post, channel_at, lacks_buffers, passes_lane, post, puts_of, refusal, success_puts}
use Rattle.board_model.specs.DomainCall.{DomainCall, packet_from}
use Rattle.board_model.specs.State.{ChannelEnd, DomainState, place_at}
use Rattle.packet_channel.specs.End.{end_of}
use Rattle.domain_parts.specs.Calls.{sent}
use Rattle.domain_parts.specs.CallSteps.{Acts}
use Rattle.domain_parts.specs.Parts.{state_of}
use Rattle.domain_parts.proofs.Calling.{nothing-noted}
use Rattle.domain_parts.proofs.DataMeaning.{data-means, data-puts, packet-refused, packet-words}
use Rattle.domain_parts.proofs.Posting.{posted-place, sent-acts, sent-told}
use Rattle.domain_parts.proofs.Stepping.{acts-refused}
use Rattle.domain_parts.proofs.holdings.Holdings.put_packet.Given.{Over}
use Rattle.domain_parts.proofs.holdings.Holdings.put_packet.Goals as goal

-- ---- a word of the end

word-holds : (g : Over) (c : goal.After-from_residual g) → refusal (state_of c.args.self.now.parts) c.args.at.node (packet_from c.args.at.port c.args.bytes.now) ≡ Some c.in_err-may_send.field-0.0
word-holds g c = packet-refused (state_of c.args.self.now.parts) c.args.at c.in-Some.place (end_of c.in-Some-channel_at.channel) (sym c.in-Some.ensures.place) (sym c.in-Some-channel_at.ensures.there) c.args.bytes.now c.in_err-may_send.field-0.0 (sym c.in_err-may_send.was ∙ c.may_send.ensures)

pub returns-in_err-may_send-clause-acts : goal.returns-in_err-may_send-clause-acts
returns-in_err-may_send-clause-acts g c =
    let old = c.args.self.now in
    let call = packet_from c.args.at.port c.args.bytes.now in
    let word = c.in_err-may_send.field-0.0 in
    let answers : c.from_residual.result ≡ Err word = search rules in
    subst (λ x. Acts g.P.PeerLane.Moved c.args.at.node call old old (sent x) None) (sym answers)
    (acts-refused g.P.PeerLane.Moved c.args.at.node call old old word (word-holds g c) refl)

pub returns-in_err-may_send-clause-told : goal.returns-in_err-may_send-clause-told
returns-in_err-may_send-clause-told g c = nothing-noted (state_of c.args.self.now.parts) c.args.at.node (packet_from c.args.at.port c.args.bytes.now) c.in_err-may_send.field-0.0 c.args.journal.now.lines (word-holds g c)

-- ---- it is too long for its lane, or for any

module _ (g : Over) (c : goal.Then-is_too_long g) where
  abbrev old : DomainState
  old = state_of c.args.self.now.parts

  abbrev long_end : ChannelEnd
  long_end = end_of c.in-Some-channel_at.channel

  abbrev long_call : DomainCall
  long_call = packet_from c.args.at.port c.args.bytes.now

  long_has : channel_at old c.args.at ≡ Some long_end
  long_has = sym c.in-Some-channel_at.ensures.there

  long_frames : success_puts old c.args.at.node long_call ≡ puts_of (post long_end.peer c.address_at.result long_end.peer_address (packet long_end.number c.args.bytes.now))
  long_frames = data-puts c.args.self.now.parts c.in-Some.ensures.sound c.args.at c.in-Some.place (sym c.in-Some.ensures.place) long_end long_has c.address_at.result c.address_at.ensures long_call (λ number. packet number c.args.bytes.now) refl refl

  too_long : refusal old c.args.at.node long_call ≡ Some PktSize
  too_long =
      packet-words old c.args.at c.in-Some.place long_end (sym c.in-Some.ensures.place) long_has c.args.bytes.now true (sym c.in_ok-may_send.was ∙ c.may_send.ensures)
      (ap (λ (ps : List (ℕ × List ℕ)). nat_lt item_size (length c.args.bytes.now) || passes_lane old ps) long_frames ∙ sym c.is_too_long.ensures ∙ c.if-is_too_long.true)

pub returns-then-is_too_long-clause-acts : goal.returns-then-is_too_long-clause-acts
returns-then-is_too_long-clause-acts g c = acts-refused g.P.PeerLane.Moved c.args.at.node (long_call g c) c.args.self.now c.args.self.now PktSize (too_long g c) refl

pub returns-then-is_too_long-clause-told : goal.returns-then-is_too_long-clause-told
returns-then-is_too_long-clause-told g c = nothing-noted (old g c) c.args.at.node (long_call g c) PktSize c.args.journal.now.lines (too_long g c)

-- ---- its lane has buffers, or lacks them

module _ (g : Over) (c : goal.After-put_item g) where
  abbrev end : ChannelEnd
  end = end_of c.in-Some-channel_at.channel

  abbrev call : DomainCall
  call = packet_from c.args.at.port c.args.bytes.now

  abbrev letter : ℕ → PlainLetter
  letter number = packet number c.args.bytes.now

  abbrev sends : Post
  sends = post end.peer c.address_at.result end.peer_address (letter end.number)

  there : place_at (state_of c.args.self.now.parts) c.args.at ≡ Some c.in-Some.place
  there = sym c.in-Some.ensures.place

  has : channel_at (state_of c.args.self.now.parts) c.args.at ≡ Some end
  has = sym c.in-Some-channel_at.ensures.there

  frames : success_puts (state_of c.args.self.now.parts) c.args.at.node call ≡ puts_of sends
  frames = data-puts c.args.self.now.parts c.in-Some.ensures.sound c.args.at c.in-Some.place there end has c.address_at.result c.address_at.ensures call letter refl refl

  word : refusal (state_of c.args.self.now.parts) c.args.at.node call ≡ cond (lacks_buffers (state_of c.args.self.now.parts) (success_puts (state_of c.args.self.now.parts) c.args.at.node call)) (Some NoBuffer) None
  word =
      packet-words (state_of c.args.self.now.parts) c.args.at c.in-Some.place end there has c.args.bytes.now false (sym c.in_ok-may_send.was ∙ c.may_send.ensures)
      (ap (λ (ps : List (ℕ × List ℕ)). nat_lt item_size (length c.args.bytes.now) || passes_lane (state_of c.args.self.now.parts) ps) frames ∙ sym c.is_too_long.ensures ∙ c.if-is_too_long.false)

pub returns-clause-acts : goal.returns-clause-acts
returns-clause-acts g c =
    let old = c.args.self.now in
    sent-acts g.P.PeerLane.Moved c.args.at.node (call g c) (sends g c) old c.put_item.new.self (word g c) (frames g c) refl refl
    (λ enough.
    let at = posted-place old.parts (sends g c) enough in
    data-means old.parts c.in-Some.ensures.sound c.args.at c.in-Some.place (there g c) (end g c) (has g c) c.address_at.result c.address_at.ensures (call g c) (letter g c) at.0 at.1 (frames g c) refl refl refl refl refl refl)
    c.put_item.result c.put_item.ensures.full c.put_item.ensures.word c.put_item.ensures.stays c.put_item.ensures.did

pub returns-clause-told : goal.returns-clause-told
returns-clause-told g c = sent-told (state_of c.args.self.now.parts) c.args.at.node (call g c) (sends g c) (word g c) (frames g c) c.args.journal.now.lines c.put_item.new.journal.lines c.put_item.result c.put_item.ensures.full c.put_item.ensures.silent c.put_item.ensures.told
