use Rattle.std.proofs.Common.{◌≡◌, ◌∙◌, ◌<◌, ℕ, List, ◌∷◌, ◌++◌, [], Option, None, Some, ap, length, map, sym, refl, subst, rules}
use Rattle.std.specs.Prelude.{Err, Ok, position, ◌==◌}
use Rattle.mc_base.specs.Frame.{made}
use Rattle.mc_base.specs.Letter.{Saying, letter_text, saying_text, spelling}
use Rattle.mc_base.specs.declared.refusal.Refusal.{Refusal}
use Rattle.mc_base.specs.declared.request.Slot.{Slot}
use Rattle.board_model.specs.Answer.{channel_at, lacks_buffers, closing_letter, refusal, success_puts}
use Rattle.board_model.specs.ChannelEnds.{closed_end}
use Rattle.board_model.specs.DomainCall.{close_at}
use Rattle.board_model.specs.Journal.{noted_all}
use Rattle.board_model.specs.Serial.{put_entry}
use Rattle.board_model.specs.State.{ChannelEnd, place_at}
use Rattle.packet_channel.specs.End.{end_of}
use Rattle.packet_channel.specs.declared.channel.Channel.{Channel}
use Rattle.domain_parts.specs.Calls.{closed}
use Rattle.domain_parts.specs.CallSteps.{Acts, emptying}
use Rattle.domain_parts.specs.Parts.{Parts, state_of}
use Rattle.domain_parts.specs.Records.{kept, slots_at}
use Rattle.domain_parts.specs.Steps.{Did, Step, channel_set, frame_put}
use Rattle.domain_parts.proofs.Calling.{puts-done}
use Rattle.domain_parts.proofs.ChannelMeaning.{close-answer, close-means, close-puts, close-steps, emptied-did, emptied-place}
use Rattle.domain_parts.proofs.Channels.{answered-none, answered-word, kept-as, lacks-none, close-words, or_lacks}
use Rattle.domain_parts.proofs.Steps.{free-place, not-zero, place-within}
use Rattle.domain_parts.proofs.Stepping.{acts-done, acts-refused, did-then}
use Rattle.domain_parts.proofs.holdings.Holdings.close_end.Given.{Over}
use Rattle.domain_parts.proofs.holdings.Holdings.close_end.Goals as goal

-- ---- a word of the end

word-holds : (g : Over) (c : goal.After-from_residual g) → refusal (state_of c.args.self.now.parts) c.args.at.node (close_at c.args.at.port c.args.side) ≡ Some c.in_err-may_close.field-0.0
word-holds g c =
    let s = state_of c.args.self.now.parts in
    let end = end_of c.in-Some-channel_at.channel in
    let word = answered-word _ c.in_err-may_close.field-0.0 (sym c.in_err-may_close.was ∙ c.may_close.ensures) in
    close-words s c.args.at.node c.args.at.port c.in-Some.place end (sym c.in-Some.ensures.place) (sym c.in-Some-channel_at.ensures.there) c.args.side
    ∙ ap (λ (o : Option Refusal). or_lacks o (lacks_buffers s (success_puts s c.args.at.node (close_at c.args.at.port c.args.side)))) word

pub returns-in_err-may_close-clause-acts : goal.returns-in_err-may_close-clause-acts
returns-in_err-may_close-clause-acts g c =
    let old = c.args.self.now in
    let call = close_at c.args.at.port c.args.side in
    let word = c.in_err-may_close.field-0.0 in
    let answers : c.from_residual.result ≡ Err word = search rules in
    subst (λ x. Acts g.P.PeerLane.Moved c.args.at.node call old old (closed c.args.side x) None) (sym answers)
    (acts-refused g.P.PeerLane.Moved c.args.at.node call old old word (word-holds g c) refl)

-- ---- it closes

module _ (g : Over) (c : goal.After-set_channel g) where
  abbrev end : ChannelEnd
  end = end_of c.in-Some-channel_at.channel

  abbrev frame : List ℕ
  frame = made c.address_at-source.result end.peer_address (spelling (closing_letter c.args.side end.number))

  there : place_at (state_of c.args.self.now.parts) c.args.at ≡ Some c.in-Some.place
  there = sym c.in-Some.ensures.place

  has : channel_at (state_of c.args.self.now.parts) c.args.at ≡ Some end
  has = sym c.in-Some-channel_at.ensures.there

  free : 0 < c.free_to.result
  free = not-zero c.free_to.result c.if-free_to-eq0.false

  peer : (j : ℕ) × (Some j ≡ position (λ x. x.number == end.peer) c.args.self.now.parts.peers)
  peer = free-place c.args.self.now.parts end.peer (subst (λ (n : ℕ). 0 < n) c.free_to.ensures free)

  frames : success_puts (state_of c.args.self.now.parts) c.args.at.node (close_at c.args.at.port c.args.side) ≡ (end.peer, frame) ∷ []
  frames = close-puts c.args.self.now.parts c.in-Some.ensures.sound c.args.at c.in-Some.place there end has c.address_at-source.result c.address_at-source.ensures peer.0 peer.1 c.args.side

  unrefused : refusal (state_of c.args.self.now.parts) c.args.at.node (close_at c.args.at.port c.args.side) ≡ None
  unrefused =
      let s = state_of c.args.self.now.parts in
      close-words s c.args.at.node c.args.at.port c.in-Some.place end there has c.args.side
      ∙ ap (λ (o : Option Refusal). or_lacks o (lacks_buffers s (success_puts s c.args.at.node (close_at c.args.at.port c.args.side)))) (answered-none _ (sym c.in_ok-may_close.was ∙ c.may_close.ensures))
      ∙ ap (or_lacks None) (ap (lacks_buffers s) frames ∙ lacks-none s (end.peer, frame) (subst (λ (n : ℕ). 0 < n) c.free_to.ensures free))

  said : made c.address_at-source.result end.peer_address (letter_text c.closing_letter-letter.result) ≡ frame
  said = ap (λ (s : Saying). made c.address_at-source.result end.peer_address (saying_text s)) c.closing_letter-letter.ensures

pub set_channel-requires-clause-within : goal.set_channel-requires-clause-within
set_channel-requires-clause-within g c =
    let M = g.P.PeerLane.Moved in
    let place : place_at (state_of c.put_letter.new.self.parts) c.args.at ≡ Some c.in-Some.place = ap (λ (p : Parts). place_at (state_of p) c.args.at) c.put_letter.ensures.did.parts ∙ sym c.in-Some.ensures.place in
    place-within c.empty_end-dropped.new.self.parts c.args.at c.in-Some.place (emptied-place M c.args.at c.in-Some.place c.args.side c.put_letter.new.self c.empty_end-dropped.new.self c.empty_end-dropped.ensures.did place)

pub returns-clause-acts : goal.returns-clause-acts
returns-clause-acts g c =
    let M = g.P.PeerLane.Moved in
    let both = g.met.P.PeerLane.both in
    let old = c.args.self.now in
    let mid = c.empty_end-dropped.new.self in
    let new = c.set_channel.new.self in
    let i = c.in-Some.place in
    let at = c.args.at in
    let side = c.args.side in
    let call = close_at c.args.at.port side in
    let d = (end g c).peer in
    let ss = slots_at old.parts.records i in
    let put = frame_put d (made c.address_at-source.result (end g c).peer_address (letter_text c.closing_letter-letter.result)) in
    let set = channel_set i (kept c.closed.new.self) in
    let slots : slots_at c.put_letter.new.self.parts.records i ≡ ss = ap (λ (p : Parts). slots_at p.records i) c.put_letter.ensures.did.parts in
    let emptied = subst (λ (x : Parts). Did M (put ∷ emptying x.book side i at (slots_at x.records i)) old mid) c.put_letter.ensures.did.parts (emptied-did M at i both side (put ∷ []) old c.put_letter.new.self mid c.put_letter.ensures.did c.empty_end-dropped.ensures.did) in
    let did = did-then M both (put ∷ emptying old.parts.book side i at ss) (set ∷ []) old mid new emptied c.set_channel.ensures in
    let is =
    ap (λ (f : List ℕ). frame_put d f ∷ (emptying old.parts.book side i at ss ++ set ∷ [])) (said g c)
    ∙ ap (λ (o : Option Channel). frame_put d (frame g c) ∷ (emptying old.parts.book side i at ss ++ channel_set i o ∷ [])) (kept-as c.closed.new.self (closed_end (end g c)) c.closed.ensures.left)
    ∙ sym (close-steps old.parts c.in-Some.ensures.sound at i (there g c) (end g c) (has g c) c.address_at-source.result c.address_at-source.ensures (peer g c).0 (peer g c).1 side) in
    let answer = c.empty_end-dropped.ensures.count ∙ ap (λ (xs : List Slot). closed side (Ok (length xs))) slots ∙ close-answer old.parts at i (there g c) side in
    acts-done M at.node call old new (closed side (Ok c.empty_end-dropped.result)) None (unrefused g c) answer
    (record {
      did = subst (λ (cs : List Step). Did M cs old new) is did;
      means = close-means old.parts c.in-Some.ensures.sound at i (there g c) (end g c) (has g c) c.address_at-source.result c.address_at-source.ensures (peer g c).0 (peer g c).1 side;
    })

pub returns-clause-told : goal.returns-clause-told
returns-clause-told g c =
    let s = state_of c.args.self.now.parts in
    let lines = c.args.journal.now.lines in
    c.put_letter.ensures.told
    ∙ ap (λ (f : List ℕ). noted_all lines (put_entry ((end g c).peer, f) ∷ [])) (said g c)
    ∙ ap (λ (ps : List (ℕ × List ℕ)). noted_all lines (map put_entry ps)) (sym (puts-done s c.args.at.node (close_at c.args.at.port c.args.side) (unrefused g c) ∙ frames g c))
