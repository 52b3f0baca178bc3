use Rattle.std.proofs.Common.{◌≡◌, ◌∙◌, ◌<◌, ℕ, Bool, List, ◌∷◌, [], cond, Option, None, Some, ap, map, sym, refl, subst, rules}
use Rattle.std.specs.Prelude.{Err, position, ◌==◌}
use Rattle.mc_base.specs.Frame.{made}
use Rattle.mc_base.specs.Letter.{PlainLetter, spelling, scalar}
use Rattle.mc_base.specs.declared.channel.Kind.TheVariants.{Scalar}
use Rattle.mc_base.specs.declared.refusal.Refusal.{Refusal}
use Rattle.mc_base.specs.declared.refusal.Refusal.TheVariants.{NoBuffer}
use Rattle.board_model.specs.Answer.{channel_at, lacks_buffers, refusal, success_puts}
use Rattle.board_model.specs.ChannelEnds.{sends}
use Rattle.board_model.specs.DomainCall.{DomainCall, scalar_from}
use Rattle.board_model.specs.Journal.{agrees, noted_all}
use Rattle.board_model.specs.Serial.{put_entry}
use Rattle.board_model.specs.State.{ChannelEnd, place_at}
use Rattle.packet_channel.specs.End.{end_of}
use Rattle.domain_parts.specs.Calls.{sent}
use Rattle.domain_parts.specs.CallSteps.{Acts, putting_all}
use Rattle.domain_parts.specs.Parts.{state_of}
use Rattle.domain_parts.specs.Steps.{Did, Step}
use Rattle.domain_parts.proofs.Calling.{nothing-noted, puts-done}
use Rattle.domain_parts.proofs.Channels.{answered-none, answered-word, data-words, lacks-none, or_then}
use Rattle.domain_parts.proofs.DataMeaning.{data-means, data-puts}
use Rattle.domain_parts.proofs.Steps.{free-place, not-zero}
use Rattle.domain_parts.proofs.Stepping.{acts-done, acts-refused}
use Rattle.domain_parts.proofs.holdings.Holdings.put_scalar.Given.{Over}
use Rattle.domain_parts.proofs.holdings.Holdings.put_scalar.Goals as goal

-- ---- a word of the end

word-holds : (g : Over) (c : goal.After-from_residual g) → refusal (state_of c.args.self.now.parts) c.args.at.node (scalar_from c.args.at.port c.args.bits c.args.value) ≡ Some c.in_err-may_send.field-0.0
word-holds g c =
    let s = state_of c.args.self.now.parts in
    let end = end_of c.in-Some-channel_at.channel in
    let rest = cond (lacks_buffers s (success_puts s c.args.at.node (scalar_from c.args.at.port c.args.bits c.args.value))) (Some NoBuffer) None in
    let word = answered-word _ c.in_err-may_send.field-0.0 (sym c.in_err-may_send.was ∙ c.may_send.ensures) in
    data-words s c.args.at.node c.args.at.port c.in-Some.place end (sym c.in-Some.ensures.place) (sym c.in-Some-channel_at.ensures.there) (sends Scalar) rest
    ∙ ap (λ (o : Option Refusal). or_then o rest) word

pub returns-in_err-may_send-clause-acts : goal.returns-in_err-may_send-clause-acts
returns-in_err-may_send-clause-acts g c =
    let old = c.args.self.now in
    let call = scalar_from c.args.at.port c.args.bits c.args.value in
    let word = c.in_err-may_send.field-0.0 in
    let answers : c.from_residual.result ≡ Err word = search rules in
    subst (λ x. Acts g.P.PeerLane.Moved c.args.at.node call old old (sent x) None) (sym answers)
    (acts-refused g.P.PeerLane.Moved c.args.at.node call old old word (word-holds g c) refl)

pub returns-in_err-may_send-clause-told : goal.returns-in_err-may_send-clause-told
returns-in_err-may_send-clause-told g c =
    nothing-noted (state_of c.args.self.now.parts) c.args.at.node (scalar_from c.args.at.port c.args.bits c.args.value) c.in_err-may_send.field-0.0 c.args.journal.now.lines (word-holds g c)

-- ---- it is sent

module _ (g : Over) (c : goal.After-put_letter g) where
  abbrev end : ChannelEnd
  end = end_of c.in-Some-channel_at.channel

  abbrev call : DomainCall
  call = scalar_from c.args.at.port c.args.bits c.args.value

  abbrev letter : ℕ → PlainLetter
  letter number = scalar number c.args.bits c.args.value

  abbrev frame : List ℕ
  frame = made c.address_at-source.result end.peer_address (spelling (letter end.number))

  there : place_at (state_of c.args.self.now.parts) c.args.at ≡ Some c.in-Some.place
  there = sym c.in-Some.ensures.place

  has : channel_at (state_of c.args.self.now.parts) c.args.at ≡ Some end
  has = sym c.in-Some-channel_at.ensures.there

  free : 0 < c.free_to.result
  free = not-zero c.free_to.result c.if-free_to-eq0.false

  peer : (j : ℕ) × (Some j ≡ position (λ x. x.number == end.peer) c.args.self.now.parts.peers)
  peer = free-place c.args.self.now.parts end.peer (subst (λ (n : ℕ). 0 < n) c.free_to.ensures free)

  frames : success_puts (state_of c.args.self.now.parts) c.args.at.node call ≡ (end.peer, frame) ∷ []
  frames = data-puts c.args.self.now.parts c.in-Some.ensures.sound c.args.at c.in-Some.place there end has c.address_at-source.result c.address_at-source.ensures call letter refl refl

  unrefused : refusal (state_of c.args.self.now.parts) c.args.at.node call ≡ None
  unrefused =
      let s = state_of c.args.self.now.parts in
      let rest = cond (lacks_buffers s (success_puts s c.args.at.node (scalar_from c.args.at.port c.args.bits c.args.value))) (Some NoBuffer) None in
      data-words s c.args.at.node c.args.at.port c.in-Some.place end there has (sends Scalar) rest
      ∙ ap (λ (o : Option Refusal). or_then o rest) (answered-none _ (sym c.in_ok-may_send.was ∙ c.may_send.ensures))
      ∙ ap (λ (b : Bool). cond b (Some NoBuffer) None) (ap (lacks_buffers s) frames ∙ lacks-none s (end.peer, frame) (subst (λ (n : ℕ). 0 < n) c.free_to.ensures free))

pub returns-clause-acts : goal.returns-clause-acts
returns-clause-acts g c =
    let M = g.P.PeerLane.Moved in
    let old = c.args.self.now in
    let i = c.in-Some.place in
    let puts = frames g c in
    acts-done M c.args.at.node (call g c) old c.put_letter.new.self agrees None (unrefused g c) refl
    (record {
      did = subst (λ (cs : List Step). Did M cs old c.put_letter.new.self) (sym (ap putting_all puts)) c.put_letter.ensures.did;
      means = data-means old.parts c.in-Some.ensures.sound c.args.at i (there g c) (end g c) (has g c) c.address_at-source.result c.address_at-source.ensures (call g c) (letter g c) (peer g c).0 (peer g c).1 puts refl refl refl refl refl refl;
    })

pub returns-clause-told : goal.returns-clause-told
returns-clause-told g c =
    let s = state_of c.args.self.now.parts in
    let lines = c.args.journal.now.lines in
    c.put_letter.ensures.told
    ∙ ap (λ (ps : List (ℕ × List ℕ)). noted_all lines (map put_entry ps)) (sym (puts-done s c.args.at.node (call g c) (unrefused g c) ∙ frames g c))
