use Rattle.std.proofs.Common.{◌≡◌, ◌<◌, ◌∙◌, ◌∷◌, [], ap, sym, refl, subst, length, List, Some, None, true, false}
use Rattle.std.specs.Prelude.{is_some, slice_get}
use Rattle.board_model.specs.Choice.{best}
use Rattle.board_model.specs.DomainCall.{request_at}
use Rattle.board_model.specs.State.{place_at}
use Rattle.message_queue.specs.Queue.{Waiting, waiting}
use Rattle.request_set.specs.declared.ask.Ask.TheVariants as ask
use Rattle.request_set.specs.declared.ask.Complete.TheVariants as complete
use Rattle.request_set.specs.Requests.{Requests, with_complete}
use Rattle.domain_parts.specs.LaneSeen.{LaneSeen}
use Rattle.domain_parts.specs.declared.endpoints.Endpoint.{Endpoint}
use Rattle.domain_parts.specs.declared.holdings.Holdings.TheInside.{Inside}
use Rattle.domain_parts.specs.CallSteps.{Succeeds}
use Rattle.domain_parts.specs.Parts.{Holding, Parts, Sound, holding_in, parts_in, peers_seen, plain, state_of}
use Rattle.domain_parts.specs.Records.{Records, waiting_in, with_best_taken_at}
use Rattle.domain_parts.specs.Steps.{Did, receive_begun, request_begun, with_last}
use Rattle.domain_parts.proofs.Beginning.{few-left, id-fresh, last-complete, last-receives}
use Rattle.domain_parts.proofs.Readings.{none-from}
use Rattle.domain_parts.proofs.Meaning.{pending-means, receive-steps, request-means}
use Rattle.domain_parts.proofs.Receiving.{handed-sound, pending-sound}
use Rattle.domain_parts.proofs.Stepping.{quiet-moved, quiet-peers}
use Rattle.domain_parts.proofs.Tables.{taken-none}
use Rattle.domain_parts.proofs.holdings.Holdings.begin_receive_at.Given.{Over}
use Rattle.domain_parts.proofs.holdings.Holdings.begin_receive_at.Goals as goal

abbrev v : (g : Over) → (g.row.P.Denot → LaneSeen)
v g = g.P.PeerLane.seen

abbrev p : (g : Over) → Inside g.row.P.Denot → Parts
p g d = parts_in (v g) d.book d.endpoints d.requests d.table d.peers.items

absurd-none : false ≡ true → ⊥
absurd-none e = cc

-- ---- a message waits

few : (g : Over) (c : goal.After-complete g) → length c.self.inside.requests.standing < 64
few g c = few-left (length c.self.inside.requests.standing) (λ more. absurd-none (c.in-Ok.ensures.limit.1 more))

requests-are : (g : Over) (c : goal.After-complete g) → c.complete.new.self ≡ with_last c.self.inside.requests c.in-Ok.id (ask.Message c.args.at c.args.max) (Some (complete.Message c.in-Some.slot c.args.max))
requests-are g c =
    let a = ask.Message c.args.at c.args.max in
    let how = complete.Message c.in-Some.slot c.args.max in
    c.complete.ensures ∙ ap (λ (q : Requests). with_complete q c.in-Ok.id how) c.in-Ok.ensures.added ∙ last-complete c.self.inside.requests c.in-Ok.id a how c.in-Ok.ensures.fresh

pub invariant_of-self-in-Some : goal.invariant_of-self-in-Some
invariant_of-self-in-Some g c =
    let d = c.self.inside in
    let receives = last-receives d.requests c.in-Ok.id (ask.Message c.args.at c.args.max) (Some (complete.Message c.in-Some.slot c.args.max)) c.self.invariant.receives refl c.in-Ok.ensures.fresh (few g c) in
    subst (λ (r : Records). Sound (record (p g d) { records = r; requests = c.complete.new.self })) (sym c.take_best.ensures.rest)
    (subst (λ (q : Requests). Sound (record (p g d) { records = with_best_taken_at d.endpoints c.args.place; requests = q })) (sym (requests-are g c))
    (handed-sound plain d.book d.endpoints d.requests d.table (p g d).peers c.self.invariant c.args.place (waiting c.in-Some.slot c.in-Some.field-0-1) c.in-Some.ensures.best c.in-Ok.id c.args.at c.args.max receives))

pub returns-in-Some-clause-succeeds : goal.returns-in-Some-clause-succeeds
returns-in-Some-clause-succeeds g c =
    let d = c.self.inside in
    let M = g.P.PeerLane.Moved in
    let call = request_at c.args.at.port c.args.max in
    let id = c.in-Ok.id in
    let w = waiting c.in-Some.slot c.in-Some.field-0-1 in
    let is = c.in-Some.ensures.best in
    let there = subst (λ (x : Holding g.row.P.Denot). place_at (state_of x.parts) c.args.at ≡ Some c.args.place) (sym c.self.view_is) c.requires.there in
    let fresh = id-fresh d.requests (state_of (p g d)) id c.in-Ok.ensures.fresh c.in-Ok.ensures.key c.in-Ok.ensures.serial in
    let old = holding_in (v g) d.book d.endpoints d.requests d.table d.peers.items in
    let new = holding_in (v g) d.book c.take_best.new.self c.complete.new.self d.table d.peers.items in
    let step = receive_begun c.args.place c.in-Some.slot id c.args.at c.args.max in
    let r = c.take_best.ensures.rest in
    let q = requests-are g c in
    let ps = sym (quiet-peers (peers_seen (v g) d.peers.items)) in
    let did : Did M (step ∷ []) old new = record { parts = cc; moved = quiet-moved M g.met.P.PeerLane.none (v g) d.peers.items } in
    subst (λ (x : Holding g.row.P.Denot). Succeeds M c.args.at.node call x new (Some id)) c.self.view_is
    (record {
      did = subst (λ cs. Did M cs old new) (sym (receive-steps (p g d) c.self.invariant c.args.place id c.args.at c.args.max there fresh (Some w) is)) did;
      means = request-means (p g d) c.self.invariant c.args.place id c.args.at c.args.max there fresh w is;
    })

-- ---- no message waits

none-few : (g : Over) (c : goal.In_default-take_best g) → length c.self.inside.requests.standing < 64
none-few g c = few-left (length c.self.inside.requests.standing) (λ more. absurd-none (c.in-Ok.ensures.limit.1 more))

nothing : (g : Over) (c : goal.In_default-take_best g) → waiting_in (slice_get c.self.inside.endpoints.endpoints c.args.place) ≡ []
nothing g c = c.take_best.ensures.none (ap (λ o. is_some o) (none-from c.take_best.result c.in_default-take_best.not-Some))

same : (g : Over) (c : goal.In_default-take_best g) → c.take_best.new.self ≡ c.self.inside.endpoints
same g c =
    let r = c.self.inside.endpoints in
    c.take_best.ensures.rest ∙ ap (λ (es : List Endpoint). record r { endpoints = es }) (taken-none r.endpoints c.args.place (nothing g c))

pub invariant_of-self-in_default-take_best : goal.invariant_of-self-in_default-take_best
invariant_of-self-in_default-take_best g c =
    let d = c.self.inside in
    let receives = last-receives d.requests c.in-Ok.id (ask.Message c.args.at c.args.max) None c.self.invariant.receives tt c.in-Ok.ensures.fresh (none-few g c) in
    subst (λ (r : Records). Sound (record (p g d) { records = r; requests = c.add.new.self })) (sym (same g c))
    (subst (λ (q : Requests). Sound (record (p g d) { requests = q })) (sym c.in-Ok.ensures.added)
    (pending-sound plain d.book d.endpoints d.requests d.table (p g d).peers c.in-Ok.id c.args.at c.args.max receives c.self.invariant))

pub returns-in_default-take_best-clause-succeeds : goal.returns-in_default-take_best-clause-succeeds
returns-in_default-take_best-clause-succeeds g c =
    let d = c.self.inside in
    let M = g.P.PeerLane.Moved in
    let call = request_at c.args.at.port c.args.max in
    let id = c.in-Ok.id in
    let there = subst (λ (x : Holding g.row.P.Denot). place_at (state_of x.parts) c.args.at ≡ Some c.args.place) (sym c.self.view_is) c.requires.there in
    let fresh = id-fresh d.requests (state_of (p g d)) id c.in-Ok.ensures.fresh c.in-Ok.ensures.key c.in-Ok.ensures.serial in
    let old = holding_in (v g) d.book d.endpoints d.requests d.table d.peers.items in
    let new = holding_in (v g) d.book c.take_best.new.self c.add.new.self d.table d.peers.items in
    let none = ap (best (λ (x : Waiting). x.priority)) (nothing g c) in
    let r = same g c in
    let q = c.in-Ok.ensures.added in
    let ps = sym (quiet-peers (peers_seen (v g) d.peers.items)) in
    let did : Did M (request_begun id (ask.Message c.args.at c.args.max) None ∷ []) old new = record { parts = cc; moved = quiet-moved M g.met.P.PeerLane.none (v g) d.peers.items } in
    subst (λ (x : Holding g.row.P.Denot). Succeeds M c.args.at.node call x new (Some id)) c.self.view_is
    (record {
      did = subst (λ cs. Did M cs old new) (sym (receive-steps (p g d) c.self.invariant c.args.place id c.args.at c.args.max there fresh None none)) did;
      means = pending-means (p g d) c.self.invariant c.args.place id c.args.at c.args.max there fresh (nothing g c);
    })
