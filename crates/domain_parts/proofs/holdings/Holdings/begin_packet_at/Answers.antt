use Rattle.std.proofs.Common.{◌≡◌, ◌<◌, ◌∙◌, ◌∷◌, [], ap, sym, refl, subst, length, List, Some, None, true, false}
use Rattle.std.specs.Prelude.{option_map, slice_get}
use Rattle.board_model.specs.Choice.{oldest}
use Rattle.board_model.specs.DomainCall.{packet_request_at}
use Rattle.board_model.specs.State.{place_at}
use Rattle.message_queue.specs.Queue.{Waiting}
use Rattle.request_set.specs.declared.ask.Ask.TheVariants as ask
use Rattle.request_set.specs.declared.ask.Complete.TheVariants as complete
use Rattle.request_set.specs.Requests.{Requests, with_complete}
use Rattle.domain_parts.specs.LaneSeen.{LaneSeen}
use Rattle.domain_parts.specs.declared.endpoints.Endpoint.{Endpoint}
use Rattle.domain_parts.specs.declared.holdings.Holdings.TheInside.{Inside}
use Rattle.domain_parts.specs.CallSteps.{Succeeds}
use Rattle.domain_parts.specs.Parts.{Holding, Parts, Sound, holding_in, parts_in, peers_seen, plain, state_of}
use Rattle.domain_parts.specs.Records.{Records, waiting_in, with_oldest_taken_at}
use Rattle.domain_parts.specs.Steps.{Did, packet_begun, request_begun, with_last}
use Rattle.domain_parts.proofs.Asking.{asked-sound}
use Rattle.domain_parts.proofs.Beginning.{few-left, id-fresh, last-complete, last-receives}
use Rattle.domain_parts.proofs.LendingMeaning.{oldest-none, requested-means, requested-sound, requested-steps, waits-means, waits-steps}
use Rattle.domain_parts.proofs.Readings.{none-from}
use Rattle.domain_parts.proofs.Stepping.{quiet-moved, quiet-peers}
use Rattle.domain_parts.proofs.holdings.Holdings.begin_packet_at.Given.{Over}
use Rattle.domain_parts.proofs.holdings.Holdings.begin_packet_at.Goals as goal

abbrev v : (g : Over) → (g.row.P.Denot → LaneSeen)
v g = g.P.PeerLane.seen

abbrev p : (g : Over) → Inside g.row.P.Denot → Parts
p g d = parts_in (v g) d.book d.endpoints d.requests d.table d.peers.items

absurd-none : false ≡ true → ⊥
absurd-none e = cc

-- ---- a packet is queued

few : (g : Over) (c : goal.After-complete g) → length c.self.inside.requests.standing < 64
few g c = few-left (length c.self.inside.requests.standing) (λ more. absurd-none (c.in-Ok.ensures.limit.1 more))

first : (g : Over) (c : goal.After-complete g) → Some c.in-Some.slot ≡ option_map (λ (w : Waiting). w.slot) (oldest (waiting_in (slice_get c.self.inside.endpoints.endpoints c.args.place)))
first g c = c.in-Some.ensures.oldest

requests-are : (g : Over) (c : goal.After-complete g) → c.complete.new.self ≡ with_last c.self.inside.requests c.in-Ok.id (ask.Packet c.args.at) (Some (complete.Packet c.in-Some.slot))
requests-are g c =
    let a = ask.Packet c.args.at in
    let how = complete.Packet c.in-Some.slot in
    c.complete.ensures ∙ ap (λ (q : Requests). with_complete q c.in-Ok.id how) c.in-Ok.ensures.added ∙ last-complete c.self.inside.requests c.in-Ok.id a how c.in-Ok.ensures.fresh

pub invariant_of-self-in-Some : goal.invariant_of-self-in-Some
invariant_of-self-in-Some g c =
    let d = c.self.inside in
    let receives = last-receives d.requests c.in-Ok.id (ask.Packet c.args.at) (Some (complete.Packet c.in-Some.slot)) c.self.invariant.receives tt c.in-Ok.ensures.fresh (few g c) in
    subst (λ (r : Records). Sound (record (p g d) { records = r; requests = c.complete.new.self })) (sym c.take_oldest.ensures.rest)
    (subst (λ (q : Requests). Sound (record (p g d) { records = with_oldest_taken_at d.endpoints c.args.place; requests = q })) (sym (requests-are g c))
    (requested-sound (p g d) c.self.invariant c.args.place c.in-Some.slot (first g c) c.in-Ok.id c.args.at receives))

pub returns-in-Some-clause-succeeds : goal.returns-in-Some-clause-succeeds
returns-in-Some-clause-succeeds g c =
    let d = c.self.inside in
    let M = g.P.PeerLane.Moved in
    let call = packet_request_at c.args.at.port in
    let id = c.in-Ok.id in
    let there = subst (λ (x : Holding g.row.P.Denot). place_at (state_of x.parts) c.args.at ≡ Some c.args.place) (sym c.self.view_is) c.requires.there in
    let fresh = id-fresh d.requests (state_of (p g d)) id c.in-Ok.ensures.fresh c.in-Ok.ensures.key c.in-Ok.ensures.serial in
    let old = holding_in (v g) d.book d.endpoints d.requests d.table d.peers.items in
    let new = holding_in (v g) d.book c.take_oldest.new.self c.complete.new.self d.table d.peers.items in
    let r = c.take_oldest.ensures.rest in
    let q = requests-are g c in
    let ps = sym (quiet-peers (peers_seen (v g) d.peers.items)) in
    let did : Did M (packet_begun c.args.place c.in-Some.slot id c.args.at ∷ []) old new = record { parts = cc; moved = quiet-moved M g.met.P.PeerLane.none (v g) d.peers.items } in
    subst (λ (x : Holding g.row.P.Denot). Succeeds M c.args.at.node call x new (Some id)) c.self.view_is
    (record {
      did = subst (λ cs. Did M cs old new) (sym (requested-steps (p g d) c.self.invariant c.args.place c.in-Some.slot (first g c) c.args.at there id fresh)) did;
      means = requested-means (p g d) c.self.invariant c.args.place c.in-Some.slot (first g c) c.args.at there id fresh;
    })

-- ---- none is

none-few : (g : Over) (c : goal.In_default-take_oldest g) → length c.self.inside.requests.standing < 64
none-few g c = few-left (length c.self.inside.requests.standing) (λ more. absurd-none (c.in-Ok.ensures.limit.1 more))

nothing : (g : Over) (c : goal.In_default-take_oldest g) → None ≡ option_map (λ (w : Waiting). w.slot) (oldest (waiting_in (slice_get c.self.inside.endpoints.endpoints c.args.place)))
nothing g c = sym (none-from c.take_oldest.result c.in_default-take_oldest.not-Some) ∙ c.take_oldest.ensures.oldest

same : (g : Over) (c : goal.In_default-take_oldest g) → c.take_oldest.new.self ≡ c.self.inside.endpoints
same g c =
    let r = c.self.inside.endpoints in
    c.take_oldest.ensures.rest ∙ ap (λ (es : List Endpoint). record r { endpoints = es }) (oldest-none r.endpoints c.args.place (nothing g c))

pub invariant_of-self-in_default-take_oldest : goal.invariant_of-self-in_default-take_oldest
invariant_of-self-in_default-take_oldest g c =
    let d = c.self.inside in
    subst (λ (r : Records). Sound (record (p g d) { records = r; requests = c.add.new.self })) (sym (same g c))
    (subst (λ (q : Requests). Sound (record (p g d) { requests = q })) (sym c.in-Ok.ensures.added)
    (asked-sound plain d.book d.endpoints d.requests d.table (p g d).peers c.in-Ok.id (ask.Packet c.args.at) None refl tt c.in-Ok.ensures.fresh (none-few g c) c.self.invariant))

pub returns-in_default-take_oldest-clause-succeeds : goal.returns-in_default-take_oldest-clause-succeeds
returns-in_default-take_oldest-clause-succeeds g c =
    let d = c.self.inside in
    let M = g.P.PeerLane.Moved in
    let call = packet_request_at c.args.at.port in
    let id = c.in-Ok.id in
    let there = subst (λ (x : Holding g.row.P.Denot). place_at (state_of x.parts) c.args.at ≡ Some c.args.place) (sym c.self.view_is) c.requires.there in
    let fresh = id-fresh d.requests (state_of (p g d)) id c.in-Ok.ensures.fresh c.in-Ok.ensures.key c.in-Ok.ensures.serial in
    let old = holding_in (v g) d.book d.endpoints d.requests d.table d.peers.items in
    let new = holding_in (v g) d.book c.take_oldest.new.self c.add.new.self d.table d.peers.items in
    let r = same g c in
    let q = c.in-Ok.ensures.added in
    let ps = sym (quiet-peers (peers_seen (v g) d.peers.items)) in
    let did : Did M (request_begun id (ask.Packet c.args.at) None ∷ []) old new = record { parts = cc; moved = quiet-moved M g.met.P.PeerLane.none (v g) d.peers.items } in
    subst (λ (x : Holding g.row.P.Denot). Succeeds M c.args.at.node call x new (Some id)) c.self.view_is
    (record {
      did = subst (λ cs. Did M cs old new) (sym (waits-steps (p g d) c.self.invariant c.args.at c.args.place there (nothing g c) id fresh)) did;
      means = waits-means (p g d) c.self.invariant c.args.at c.args.place there (nothing g c) id fresh;
    })
