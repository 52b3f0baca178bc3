use Rattle.std.proofs.Common.{◌≡◌, ◌<◌, ◌∙◌, ◌∷◌, [], ap, sym, refl, subst, length, None, Option, Some, true, false}
use Rattle.mc_base.specs.declared.request.RequestId.{RequestId}
use Rattle.request_set.specs.declared.ask.Ask.{Ask}
use Rattle.request_set.specs.declared.ask.Complete.{Complete}
use Rattle.request_set.specs.Requests.{Requests, with_complete}
use Rattle.domain_parts.specs.LaneSeen.{LaneSeen}
use Rattle.domain_parts.specs.declared.holdings.Holdings.TheInside.{Inside}
use Rattle.domain_parts.specs.Calls.{IsFresh}
use Rattle.domain_parts.specs.InRequests.{Receives, slots_in}
use Rattle.domain_parts.specs.Parts.{Holding, Parts, Sound, holding_in, parts_in, peers_seen, plain, shown, state_of}
use Rattle.domain_parts.specs.Steps.{Did, request_begun, with_last}
use Rattle.domain_parts.proofs.Asking.{asked-sound}
use Rattle.domain_parts.proofs.Beginning.{few-left, id-fresh, last-complete}
use Rattle.domain_parts.proofs.Readings.{none-from}
use Rattle.domain_parts.proofs.Stepping.{quiet-moved, quiet-peers}
use Rattle.domain_parts.proofs.holdings.Holdings.begin_request.Given.{Over}
use Rattle.domain_parts.proofs.holdings.Holdings.begin_request.Goals as goal

abbrev v : (g : Over) → (g.row.P.Denot → LaneSeen)
v g = g.P.PeerLane.seen

abbrev p : (g : Over) → Inside g.row.P.Denot → Parts
p g d = parts_in (v g) d.book d.endpoints d.requests d.table d.peers.items

absurd-none : false ≡ true → ⊥
absurd-none e = cc

-- ---- it is complete at once

few : (g : Over) (c : goal.After-complete g) → length c.self.inside.requests.standing < 64
few g c = few-left (length c.self.inside.requests.standing) (λ more. absurd-none (c.in-Ok.ensures.limit.1 more))

requests-are : (g : Over) (c : goal.After-complete g) → c.complete.new.self ≡ with_last c.self.inside.requests c.in-Ok.id c.args.ask (Some c.in-Some.how)
requests-are g c = c.complete.ensures ∙ ap (λ (q : Requests). with_complete q c.in-Ok.id c.in-Some.how) c.in-Ok.ensures.added ∙ last-complete c.self.inside.requests c.in-Ok.id c.args.ask c.in-Some.how c.in-Ok.ensures.fresh

pub invariant_of-self-in-Some : goal.invariant_of-self-in-Some
invariant_of-self-in-Some g c =
    let d = c.self.inside in
    subst (λ (q : Requests). Sound (record (p g d) { requests = q })) (sym (requests-are g c))
    (asked-sound plain d.book d.endpoints d.requests d.table (p g d).peers c.in-Ok.id c.args.ask (Some c.in-Some.how)
    (subst (λ o. slots_in o ≡ []) c.in-Some.is c.requires.quiet) (subst (λ o. Receives c.args.ask o) c.in-Some.is c.requires.may) c.in-Ok.ensures.fresh (few g c) c.self.invariant)

-- the step, by the requests after it
begun : (g : Over) (d : Inside g.row.P.Denot) (q : Requests) (id : RequestId) (a : Ask) (o : Option Complete) → q ≡ with_last d.requests id a o → Did g.P.PeerLane.Moved (request_begun id a o ∷ []) (holding_in (v g) d.book d.endpoints d.requests d.table d.peers.items) (holding_in (v g) d.book d.endpoints q d.table d.peers.items)
begun g d q id a o is =
    let ps = sym (quiet-peers (peers_seen (v g) d.peers.items)) in
    record { parts = cc; moved = quiet-moved g.P.PeerLane.Moved g.met.P.PeerLane.none (v g) d.peers.items }

pub returns-in-Some-clause-did : goal.returns-in-Some-clause-did
returns-in-Some-clause-did g c =
    let d = c.self.inside in
    let new = holding_in (v g) d.book d.endpoints c.complete.new.self d.table d.peers.items in
    subst (λ (x : Holding g.row.P.Denot). Did g.P.PeerLane.Moved (request_begun c.in-Ok.id c.args.ask c.args.how ∷ []) x new) c.self.view_is
    (subst (λ o. Did g.P.PeerLane.Moved (request_begun c.in-Ok.id c.args.ask o ∷ []) (holding_in (v g) d.book d.endpoints d.requests d.table d.peers.items) new) (sym c.in-Some.is)
    (begun g d c.complete.new.self c.in-Ok.id c.args.ask (Some c.in-Some.how) (requests-are g c)))

pub returns-in-Some-clause-fresh : goal.returns-in-Some-clause-fresh
returns-in-Some-clause-fresh g c =
    let d = c.self.inside in
    subst (λ (x : Holding g.row.P.Denot). IsFresh (shown x).ids (state_of x.parts) c.in-Ok.id) c.self.view_is
    (id-fresh d.requests (state_of (p g d)) c.in-Ok.id c.in-Ok.ensures.fresh c.in-Ok.ensures.key c.in-Ok.ensures.serial)

-- ---- it is pending

none-few : (g : Over) (c : goal.In_default-how g) → length c.self.inside.requests.standing < 64
none-few g c = few-left (length c.self.inside.requests.standing) (λ more. absurd-none (c.in-Ok.ensures.limit.1 more))

pending : (g : Over) (c : goal.In_default-how g) → c.args.how ≡ None
pending g c = none-from c.args.how c.in_default-how.not-Some

pub invariant_of-self-in_default-how : goal.invariant_of-self-in_default-how
invariant_of-self-in_default-how g c =
    let d = c.self.inside in
    subst (λ (q : Requests). Sound (record (p g d) { requests = q })) (sym c.in-Ok.ensures.added)
    (asked-sound plain d.book d.endpoints d.requests d.table (p g d).peers c.in-Ok.id c.args.ask None refl (subst (λ o. Receives c.args.ask o) (pending g c) c.requires.may) c.in-Ok.ensures.fresh (none-few g c) c.self.invariant)

pub returns-in_default-how-clause-did : goal.returns-in_default-how-clause-did
returns-in_default-how-clause-did g c =
    let d = c.self.inside in
    let new = holding_in (v g) d.book d.endpoints c.add.new.self d.table d.peers.items in
    subst (λ (x : Holding g.row.P.Denot). Did g.P.PeerLane.Moved (request_begun c.in-Ok.id c.args.ask c.args.how ∷ []) x new) c.self.view_is
    (subst (λ o. Did g.P.PeerLane.Moved (request_begun c.in-Ok.id c.args.ask o ∷ []) (holding_in (v g) d.book d.endpoints d.requests d.table d.peers.items) new) (sym (pending g c))
    (begun g d c.add.new.self c.in-Ok.id c.args.ask None c.in-Ok.ensures.added))

pub returns-in_default-how-clause-fresh : goal.returns-in_default-how-clause-fresh
returns-in_default-how-clause-fresh g c =
    let d = c.self.inside in
    subst (λ (x : Holding g.row.P.Denot). IsFresh (shown x).ids (state_of x.parts) c.in-Ok.id) c.self.view_is
    (id-fresh d.requests (state_of (p g d)) c.in-Ok.id c.in-Ok.ensures.fresh c.in-Ok.ensures.key c.in-Ok.ensures.serial)
