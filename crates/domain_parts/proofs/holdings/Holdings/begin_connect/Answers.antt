use Rattle.std.proofs.Common.{◌≡◌, ◌∙◌, ◌<◌, ◌+◌, ℕ, List, ◌∷◌, [], Option, None, Some, ap, ap₂, map, sym, subst}
use Rattle.std.specs.Prelude.{position, unwrap_or, ◌==◌}
use Rattle.mc_base.specs.Frame.{made}
use Rattle.mc_base.specs.Letter.{connect, spelling}
use Rattle.mc_base.specs.declared.request.RequestId.{RequestId}
use Rattle.board_model.specs.Answer.{address_of, refusal}
use Rattle.board_model.specs.CallChanges.{new_sender}
use Rattle.board_model.specs.DomainCall.{connect_from}
use Rattle.board_model.specs.Journal.{connects, noted_all}
use Rattle.board_model.specs.Serial.{put_entry}
use Rattle.board_model.specs.State.{address_at, place_at}
use Rattle.packet_channel.specs.declared.channel.Channel.{Channel}
use Rattle.request_set.specs.declared.ask.Ask.TheVariants as ask
use Rattle.domain_parts.specs.Calls.{IsFresh}
use Rattle.domain_parts.specs.CallSteps.{as_channel}
use Rattle.domain_parts.specs.Parts.{Parts, state_of}
use Rattle.domain_parts.specs.Records.{kept}
use Rattle.domain_parts.specs.Steps.{Did, Step, channel_given, channel_set, frame_put, request_begun}
use Rattle.domain_parts.proofs.Calling.{puts-done}
use Rattle.domain_parts.proofs.ChannelMeaning.{connect-end, connect-frame, connect-means, connect-steps, end-number}
use Rattle.domain_parts.proofs.Channels.{connect-done, lacks-none}
use Rattle.domain_parts.proofs.Ending.{ids_in}
use Rattle.domain_parts.proofs.Steps.{free-place, not-zero}
use Rattle.domain_parts.proofs.Stepping.{acts-done, did-then}
use Rattle.domain_parts.proofs.holdings.Holdings.begin_connect.Given.{Over}
use Rattle.domain_parts.proofs.holdings.Holdings.begin_connect.Goals as goal

module _ (g : Over) (c : goal.After-use_number g) where
  abbrev end : Channel
  end = c.new_sender-end.result

  abbrev id : RequestId
  id = c.unwrap-id.result

  abbrev source : ℕ
  source = c.address_at-source.result

  abbrev destination : ℕ
  destination = c.in-Some-address_of.destination

  there : place_at (state_of c.args.self.now.parts) c.args.from ≡ Some c.in-Some.place
  there = sym c.in-Some.ensures.place

  free : 0 < c.free_to.result
  free = not-zero c.free_to.result c.if-free_to-eq0.false

  peer : (j : ℕ) × (Some j ≡ position (λ x. x.number == c.args.to.domain) c.args.self.now.parts.peers)
  peer = free-place c.args.self.now.parts c.args.to.domain (subst (λ (n : ℕ). 0 < n) c.free_to.ensures free)

  abbrev frame : List ℕ
  frame = made (unwrap_or (address_at (state_of c.args.self.now.parts) c.args.from) 0) (unwrap_or (address_of (state_of c.args.self.now.parts) c.args.to) 0) (spelling (connect ((state_of c.args.self.now.parts).channels_given + 1) c.args.kind))

  unrefused : refusal (state_of c.args.self.now.parts) c.args.from.node (connect_from c.args.from.port c.args.to c.args.kind) ≡ None
  unrefused =
      connect-done (state_of c.args.self.now.parts) c.args.from.node c.args.from.port c.args.to c.args.kind c.in-Some.place destination there
      (sym c.has_channel.ensures ∙ c.if-has_channel.false) (sym c.is_busy.ensures ∙ c.if-is_busy.false) (sym c.in-Some-address_of.ensures)
      (sym c.is_out_of_numbers.ensures ∙ c.if-is_out_of_numbers.false) (sym c.is_full.ensures ∙ c.if-is_full.false)
      (lacks-none (state_of c.args.self.now.parts) (c.args.to.domain, frame) (subst (λ (n : ℕ). 0 < n) c.free_to.ensures free))

  abbrev put : Step
  put = frame_put c.args.to.domain (made source destination (spelling (connect end.number c.args.kind)))

  abbrev set : Step
  set = channel_set c.in-Some.place (kept end)

  abbrev begun : Step
  begun = request_begun id (ask.Connect end.number) None

  did-set : Did g.P.PeerLane.Moved (put ∷ set ∷ []) c.args.self.now c.set_channel.new.self
  did-set = did-then g.P.PeerLane.Moved g.met.P.PeerLane.both (put ∷ []) (set ∷ []) c.args.self.now c.put_letter.new.self c.set_channel.new.self c.put_letter.ensures.did c.set_channel.ensures

  did-begun : Did g.P.PeerLane.Moved (put ∷ set ∷ begun ∷ []) c.args.self.now c.begin_request.new.self
  did-begun =
      let did : Did g.P.PeerLane.Moved (begun ∷ []) c.set_channel.new.self c.begin_request.new.self = rw c.unwrap-id.ensures at c.begin_request.ensures.did in
      did-then g.P.PeerLane.Moved g.met.P.PeerLane.both (put ∷ set ∷ []) (begun ∷ []) c.args.self.now c.set_channel.new.self c.begin_request.new.self did-set did

  did-all : Did g.P.PeerLane.Moved (put ∷ set ∷ begun ∷ channel_given ∷ []) c.args.self.now c.use_number.new.self
  did-all = did-then g.P.PeerLane.Moved g.met.P.PeerLane.both (put ∷ set ∷ begun ∷ []) (channel_given ∷ []) c.args.self.now c.begin_request.new.self c.use_number.new.self did-begun c.use_number.ensures

  fresh : IsFresh (ids_in c.args.self.now.parts.requests) (state_of c.args.self.now.parts) id
  fresh =
      let after = rw c.unwrap-id.ensures at c.begin_request.ensures.fresh in
      let f = subst (λ (p : Parts). IsFresh (ids_in p.requests) (state_of p) id) did-set.parts after in
      record { differs = f.differs; is_key = f.is_key; serial = f.serial }

  abbrev number : ℕ
  number = (state_of c.args.self.now.parts).channels_given + 1

  numbered : end.number ≡ number
  numbered = end-number (state_of c.args.self.now.parts) c.args.from c.args.to c.args.kind source destination end c.address_at-source.ensures c.in-Some-address_of.ensures c.new_sender-end.ensures.end

  framed : made source destination (spelling (connect end.number c.args.kind)) ≡ frame
  framed = connect-frame (state_of c.args.self.now.parts) c.args.from c.args.to c.args.kind source destination end c.address_at-source.ensures c.in-Some-address_of.ensures c.new_sender-end.ensures.end

  ended : kept end ≡ Some (as_channel (new_sender (state_of c.args.self.now.parts) c.args.to c.args.kind))
  ended = connect-end (state_of c.args.self.now.parts) c.args.from c.args.to c.args.kind source destination end c.address_at-source.ensures c.in-Some-address_of.ensures c.new_sender-end.ensures.end

pub returns-clause-acts : goal.returns-clause-acts
returns-clause-acts g c =
    let M = g.P.PeerLane.Moved in
    let old = c.args.self.now in
    let new = c.use_number.new.self in
    let from = c.args.from in
    let to = c.args.to in
    let i = c.in-Some.place in
    let call = connect_from from.port to c.args.kind in
    let is =
    ap (λ (f : List ℕ). frame_put to.domain f ∷ set g c ∷ begun g c ∷ channel_given ∷ []) (framed g c)
    ∙ ap (λ (o : Option Channel). frame_put to.domain (frame g c) ∷ channel_set i o ∷ begun g c ∷ channel_given ∷ []) (ended g c)
    ∙ ap (λ (n : ℕ). frame_put to.domain (frame g c) ∷ channel_set i (Some (as_channel (new_sender (state_of old.parts) to c.args.kind))) ∷ request_begun (id g c) (ask.Connect n) None ∷ channel_given ∷ []) (numbered g c)
    ∙ sym (connect-steps old.parts c.in-Some.ensures.sound from i (there g c) to c.args.kind (id g c) (fresh g c) (peer g c).0 (peer g c).1) in
    acts-done M from.node call old new (connects (id g c).serial (end g c).number) (Some (id g c)) (unrefused g c) (ap₂ connects (fresh g c).serial (numbered g c))
    (record {
      did = subst (λ (cs : List Step). Did M cs old new) is (did-all g c);
      means = connect-means old.parts c.in-Some.ensures.sound from i (there g c) to c.args.kind (id g c) (fresh g c) (peer g c).0 (peer g c).1;
    })

pub returns-clause-told : goal.returns-clause-told
returns-clause-told g c =
    let s = state_of c.args.self.now.parts in
    let lines = c.args.journal.now.lines in
    c.put_letter.ensures.told
    ∙ ap (λ (f : List ℕ). noted_all lines (put_entry (c.args.to.domain, f) ∷ [])) (framed g c)
    ∙ ap (λ (ps : List (ℕ × List ℕ)). noted_all lines (map put_entry ps)) (sym (puts-done s c.args.from.node (connect_from c.args.from.port c.args.to c.args.kind) (unrefused g c)))
