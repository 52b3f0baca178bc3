use Rattle.std.proofs.Common.{rules, ◌≡◌, ◌∙◌, ap, sym, refl, subst, Some, None}
use Rattle.std.specs.Prelude.{Err}
use Rattle.board_model.specs.DomainCall.{cancel_of}
use Rattle.board_model.specs.Journal.{agrees}
use Rattle.request_set.specs.Requests.{Requests, progress_of, without_request}
use Rattle.domain_parts.specs.LaneSeen.{LaneSeen}
use Rattle.domain_parts.specs.declared.holdings.Holdings.TheInside.{Inside}
use Rattle.domain_parts.specs.Calls.{cancelled}
use Rattle.domain_parts.specs.CallSteps.{Acts}
use Rattle.domain_parts.specs.DomainView.{place_of_id}
use Rattle.domain_parts.specs.Parts.{Holding, Parts, Sound, holding_in, parts_in, peers_seen, plain, shown, state_of}
use Rattle.domain_parts.specs.Steps.{done, request_ended}
use Rattle.domain_parts.proofs.Ending.{cancel-done, cancel-pending, cancel-refused, cancelled-same, ids_in}
use Rattle.domain_parts.proofs.Meaning.{cancel-means, gone-there}
use Rattle.domain_parts.proofs.Receiving.{quiet-sound}
use Rattle.domain_parts.proofs.Stepping.{acts-done, acts-refused, quiet-moved, quiet-peers}
use Rattle.domain_parts.proofs.holdings.Holdings.end_pending.Given.{Over}
use Rattle.domain_parts.proofs.holdings.Holdings.end_pending.Goals as goal

abbrev v : (g : Over) → (g.row.P.Denot → LaneSeen)
v g = g.P.PeerLane.seen

abbrev p : (g : Over) → Inside g.row.P.Denot → Parts
p g d = parts_in (v g) d.book d.endpoints d.requests d.table d.peers.items

-- ---- it is not pending

same : (g : Over) (c : goal.After-from_residual g) → c.cancel.new.self ≡ c.self.inside.requests
same g c = rw c.in_err-cancel.was at c.cancel.ensures.refused

answers : (g : Over) (c : goal.After-from_residual g) → c.from_residual.result ≡ Err c.in_err-cancel.field-0.0
answers g c = search rules

pub invariant_of-self : goal.invariant_of-self
invariant_of-self g c = subst (λ (q : Requests). Sound (record (p g c.self.inside) { requests = q })) (sym (same g c)) c.self.invariant

pub returns-in_err-cancel : goal.returns-in_err-cancel
returns-in_err-cancel g c =
    let d = c.self.inside in
    let M = g.P.PeerLane.Moved in
    let id = c.args.id in
    let word = c.in_err-cancel.field-0.0 in
    let e = cancel-refused d.book d.requests (state_of (p g d)) refl id word (sym c.cancel.ensures.answer ∙ c.in_err-cancel.was) in
    let old = holding_in (v g) d.book d.endpoints d.requests d.table d.peers.items in
    let new = holding_in (v g) d.book d.endpoints c.cancel.new.self d.table d.peers.items in
    let acts = acts-refused M 0 (cancel_of (place_of_id (ids_in d.requests) id)) old new word e (ap (λ (q : Requests). holding_in (v g) d.book d.endpoints q d.table d.peers.items) (same g c)) in
    subst (λ r. Acts M 0 (cancel_of (place_of_id (shown c.args.self.now).ids id)) c.args.self.now new (cancelled r) None) (sym (answers g c))
    (subst (λ (x : Holding g.row.P.Denot). Acts M 0 (cancel_of (place_of_id (shown x).ids id)) x new (cancelled (Err word)) None) c.self.view_is acts)

-- ---- it is cancelled

pending : (g : Over) (c : goal.In_ok-cancel g) → progress_of c.self.inside.requests c.args.id ≡ Some None
pending g c = cancel-pending (progress_of c.self.inside.requests c.args.id) (sym c.cancel.ensures.answer ∙ c.in_ok-cancel.was)

ended : (g : Over) (c : goal.In_ok-cancel g) → c.cancel.new.self ≡ without_request c.self.inside.requests c.args.id
ended g c = rw c.in_ok-cancel.was at c.cancel.ensures.ended

pub invariant_of-self-2 : goal.invariant_of-self-2
invariant_of-self-2 g c =
    let d = c.self.inside in
    subst (λ (q : Requests). Sound (record (p g d) { requests = q })) (sym (ended g c))
    (quiet-sound plain d.book d.endpoints d.requests d.table (p g d).peers c.args.id c.self.invariant (cancelled-same d.requests c.args.id c.self.invariant.receives (pending g c)))

after : (g : Over) (c : goal.In_ok-cancel g) → parts_in (v g) c.self.inside.book c.self.inside.endpoints c.cancel.new.self c.self.inside.table c.self.inside.peers.items ≡ done (request_ended (place_of_id (ids_in c.self.inside.requests) c.args.id)) (p g c.self.inside)
after g c =
    let q = ended g c ∙ gone-there c.self.inside.requests c.args.id c.self.invariant.receives in
    let ps = sym (quiet-peers (peers_seen (v g) c.self.inside.peers.items)) in
    cc

pub returns : goal.returns
returns g c =
    let d = c.self.inside in
    let M = g.P.PeerLane.Moved in
    let id = c.args.id in
    let place = place_of_id (ids_in d.requests) id in
    let old = holding_in (v g) d.book d.endpoints d.requests d.table d.peers.items in
    let new = holding_in (v g) d.book d.endpoints c.cancel.new.self d.table d.peers.items in
    subst (λ (x : Holding g.row.P.Denot). Acts M 0 (cancel_of (place_of_id (shown x).ids id)) x new agrees None) c.self.view_is
    (acts-done M 0 (cancel_of place) old new agrees None (cancel-done d.book d.requests (state_of (p g d)) refl id (pending g c)) refl
    (record {
      did = record { parts = after g c; moved = quiet-moved M g.met.P.PeerLane.none (v g) d.peers.items };
      means = cancel-means (p g d) place;
    }))
