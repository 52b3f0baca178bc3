use Rattle.std.proofs.Common.{◌≡◌, ◌∙◌, ◌<◌, ℕ, List, ◌∷◌, [], Option, None, Some, ap, map, sym, refl, subst, rules}
use Rattle.std.specs.Prelude.{Err, position, ◌==◌}
use Rattle.mc_base.specs.Frame.{made}
use Rattle.mc_base.specs.Letter.{Saying, letter_text, saying_text, spelling}
use Rattle.mc_base.specs.declared.refusal.Refusal.{Refusal}
use Rattle.board_model.specs.Answer.{channel_at, lacks_buffers, opening_letter, refusal, success_puts, unless_refused}
use Rattle.board_model.specs.DomainCall.{open_at}
use Rattle.board_model.specs.Journal.{agrees, noted_all}
use Rattle.board_model.specs.Serial.{put_entry}
use Rattle.board_model.specs.State.{ChannelEnd, place_at}
use Rattle.packet_channel.specs.End.{end_of}
use Rattle.packet_channel.specs.declared.channel.Channel.{Channel}
use Rattle.domain_parts.specs.Calls.{sent}
use Rattle.domain_parts.specs.CallSteps.{Acts}
use Rattle.domain_parts.specs.Parts.{state_of}
use Rattle.domain_parts.specs.Records.{kept}
use Rattle.domain_parts.specs.Steps.{Did, Step, channel_set, frame_put}
use Rattle.domain_parts.proofs.Calling.{puts-done}
use Rattle.domain_parts.proofs.ChannelMeaning.{open-means, open-puts, open-steps}
use Rattle.domain_parts.proofs.Channels.{answered-none, answered-word, kept-opened, lacks-none, open-words, or_lacks}
use Rattle.domain_parts.proofs.Steps.{free-place, not-zero}
use Rattle.domain_parts.proofs.Stepping.{acts-done, acts-refused, did-then}
use Rattle.domain_parts.proofs.holdings.Holdings.open_end.Given.{Over}
use Rattle.domain_parts.proofs.holdings.Holdings.open_end.Goals as goal

-- ---- a word of the end

word-holds : (g : Over) (c : goal.After-from_residual g) → refusal (state_of c.args.self.now.parts) c.args.at.node (open_at c.args.at.port c.args.side c.args.kind) ≡ Some c.in_err-may_open.field-0.0
word-holds g c =
    let s = state_of c.args.self.now.parts in
    let end = end_of c.in-Some-channel_at.channel in
    let word = answered-word _ c.in_err-may_open.field-0.0 (sym c.in_err-may_open.was ∙ c.may_open.ensures) in
    open-words s c.args.at.node c.args.at.port c.in-Some.place end (sym c.in-Some.ensures.place) (sym c.in-Some-channel_at.ensures.there) c.args.side c.args.kind
    ∙ ap (λ (o : Option Refusal). or_lacks o (lacks_buffers s (success_puts s c.args.at.node (open_at c.args.at.port c.args.side c.args.kind)))) word

pub returns-in_err-may_open-clause-acts : goal.returns-in_err-may_open-clause-acts
returns-in_err-may_open-clause-acts g c =
    let old = c.args.self.now in
    let call = open_at c.args.at.port c.args.side c.args.kind in
    let word = c.in_err-may_open.field-0.0 in
    let answers : c.from_residual.result ≡ Err word = search rules in
    subst (λ x. Acts g.P.PeerLane.Moved c.args.at.node call old old (sent x) None) (sym answers)
    (acts-refused g.P.PeerLane.Moved c.args.at.node call old old word (word-holds g c) refl)

pub returns-in_err-may_open-clause-told : goal.returns-in_err-may_open-clause-told
returns-in_err-may_open-clause-told g c =
    let s = state_of c.args.self.now.parts in
    let call = open_at c.args.at.port c.args.side c.args.kind in
    ap (λ (o : Option Refusal). noted_all c.args.journal.now.lines (map put_entry (unless_refused {A = List (ℕ × List ℕ)} o [] (success_puts s c.args.at.node call)))) (sym (word-holds g c))

-- ---- it opens

module _ (g : Over) (c : goal.After-set_channel g) where
  abbrev end : ChannelEnd
  end = end_of c.in-Some-channel_at.channel

  abbrev frame : List ℕ
  frame = made c.address_at-source.result end.peer_address (spelling (opening_letter c.args.side end.number))

  there : place_at (state_of c.args.self.now.parts) c.args.at ≡ Some c.in-Some.place
  there = sym c.in-Some.ensures.place

  has : channel_at (state_of c.args.self.now.parts) c.args.at ≡ Some end
  has = sym c.in-Some-channel_at.ensures.there

  free : 0 < c.free_to.result
  free = not-zero c.free_to.result c.if-free_to-eq0.false

  peer : (j : ℕ) × (Some j ≡ position (λ x. x.number == end.peer) c.args.self.now.parts.peers)
  peer = free-place c.args.self.now.parts end.peer (subst (λ (n : ℕ). 0 < n) c.free_to.ensures free)

  frames : success_puts (state_of c.args.self.now.parts) c.args.at.node (open_at c.args.at.port c.args.side c.args.kind) ≡ (end.peer, frame) ∷ []
  frames = open-puts c.args.self.now.parts c.in-Some.ensures.sound c.args.at c.in-Some.place there end has c.address_at-source.result c.address_at-source.ensures peer.0 peer.1 c.args.side c.args.kind

  unrefused : refusal (state_of c.args.self.now.parts) c.args.at.node (open_at c.args.at.port c.args.side c.args.kind) ≡ None
  unrefused =
      let s = state_of c.args.self.now.parts in
      open-words s c.args.at.node c.args.at.port c.in-Some.place end there has c.args.side c.args.kind
      ∙ ap (λ (o : Option Refusal). or_lacks o (lacks_buffers s (success_puts s c.args.at.node (open_at c.args.at.port c.args.side c.args.kind)))) (answered-none _ (sym c.in_ok-may_open.was ∙ c.may_open.ensures))
      ∙ ap (or_lacks None) (ap (lacks_buffers s) frames ∙ lacks-none s (end.peer, frame) (subst (λ (n : ℕ). 0 < n) c.free_to.ensures free))

  said : made c.address_at-source.result end.peer_address (letter_text c.opening_letter-letter.result) ≡ frame
  said = ap (λ (s : Saying). made c.address_at-source.result end.peer_address (saying_text s)) c.opening_letter-letter.ensures

pub returns-clause-acts : goal.returns-clause-acts
returns-clause-acts g c =
    let M = g.P.PeerLane.Moved in
    let old = c.args.self.now in
    let i = c.in-Some.place in
    let call = open_at c.args.at.port c.args.side c.args.kind in
    let d = (end g c).peer in
    let put = frame_put d (made c.address_at-source.result (end g c).peer_address (letter_text c.opening_letter-letter.result)) in
    let set = channel_set i (kept c.opened.new.self) in
    let did = did-then M g.met.P.PeerLane.both (put ∷ []) (set ∷ []) old c.put_letter.new.self c.set_channel.new.self c.put_letter.ensures.did c.set_channel.ensures in
    let is =
    ap (λ (f : List ℕ). frame_put d f ∷ set ∷ []) (said g c)
    ∙ ap (λ (o : Option Channel). frame_put d (frame g c) ∷ channel_set i o ∷ []) (kept-opened c.opened.new.self (end g c) c.opened.ensures.opened)
    ∙ sym (open-steps old.parts c.in-Some.ensures.sound c.args.at i (there g c) (end g c) (has g c) c.address_at-source.result c.address_at-source.ensures (peer g c).0 (peer g c).1 c.args.side c.args.kind) in
    acts-done M c.args.at.node call old c.set_channel.new.self agrees None (unrefused g c) refl
    (record {
      did = subst (λ (cs : List Step). Did M cs old c.set_channel.new.self) is did;
      means = open-means old.parts c.in-Some.ensures.sound c.args.at i (there g c) (end g c) (has g c) c.address_at-source.result c.address_at-source.ensures (peer g c).0 (peer g c).1 c.args.side c.args.kind;
    })

pub returns-clause-told : goal.returns-clause-told
returns-clause-told g c =
    let s = state_of c.args.self.now.parts in
    let lines = c.args.journal.now.lines in
    c.put_letter.ensures.told
    ∙ ap (λ (f : List ℕ). noted_all lines (put_entry ((end g c).peer, f) ∷ [])) (said g c)
    ∙ ap (λ (ps : List (ℕ × List ℕ)). noted_all lines (map put_entry ps)) (sym (puts-done s c.args.at.node (open_at c.args.at.port c.args.side c.args.kind) (unrefused g c) ∙ frames g c))
