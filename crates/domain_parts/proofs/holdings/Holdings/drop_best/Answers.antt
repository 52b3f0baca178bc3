use Rattle.std.proofs.Common.{◌≡◌, ◌∙◌, List, ◌∷◌, [], arith, length, map, take, Some, None, ℕ, false, ap, sym, refl, subst}
use Rattle.std.specs.Prelude.{slice_get, ◌==◌}
use Rattle.std.specs.Vec.{with_items}
use Rattle.std.proofs.lemmas.List.{with_items_is}
use Rattle.message_queue.specs.Queue.{Waiting, waiting}
use Rattle.board_model.specs.Choice.{best}
use Rattle.domain_parts.specs.LaneSeen.{LaneSeen}
use Rattle.domain_parts.specs.declared.endpoints.Endpoint.{Endpoint}
use Rattle.domain_parts.specs.declared.holdings.Holdings.TheInside.{Inside}
use Rattle.domain_parts.specs.AllMoved.{AllMoved, ends_of, numbers_of}
use Rattle.domain_parts.specs.GivingBack.{AreOutAt, GivesBack}
use Rattle.domain_parts.specs.InBook.{frames_at}
use Rattle.domain_parts.specs.Records.{Records, waiting_in}
use Rattle.domain_parts.specs.Parts.{Holding, Parts, Sound, holding_in, parts_in, peers_seen, plain, state_of}
use Rattle.domain_parts.specs.Steps.{Did, Step, all_moves, best_dropped, done}
use Rattle.domain_parts.specs.CallSteps.{Succeeds}
use Rattle.board_model.specs.DomainCall.{receive_at}
use Rattle.board_model.specs.State.{place_at, queue_at}
use Rattle.board_model.specs.Journal.{gives}
use Rattle.board_model.specs.Answer.{success}
use Rattle.domain_parts.proofs.GivingLemmas.{given-length}
use Rattle.domain_parts.proofs.Meaning.{receive-means}
use Rattle.domain_parts.proofs.Receiving.{best-queued, content-fits}
use Rattle.domain_parts.proofs.Steps.{best_dropped-keeps, best_dropped-answer, best_dropped-out, best_dropped-steps, queue-long}
use Rattle.domain_parts.proofs.Stepping.{given-moved, given-seen, out-unseen}
use Rattle.domain_parts.proofs.Tables.{taken-none}
use Rattle.domain_parts.proofs.holdings.Holdings.drop_best.Given.{Over}
use Rattle.domain_parts.proofs.holdings.Holdings.drop_best.Goals as goal

abbrev v : (g : Over) → (g.row.P.Denot → LaneSeen)
v g = g.P.PeerLane.seen

-- ---- none waits

same : (g : Over) (c : goal.After-from_residual g) → c.take_best.new.self ≡ c.self.inside.endpoints
same g c =
    let r = c.self.inside.endpoints in
    c.take_best.ensures.rest ∙ ap (λ (es : List Endpoint). record r { endpoints = es }) (taken-none r.endpoints c.args.place (c.in_err-slot.ensures.none refl))

pub invariant_of-self : goal.invariant_of-self
invariant_of-self g c =
    let d = c.self.inside in
    subst (λ (r : Records). Sound (parts_in (v g) d.book r d.requests d.table d.peers.items)) (sym (same g c)) c.self.invariant

pub returns-in_err-slot-clause-stays : goal.returns-in_err-slot-clause-stays
returns-in_err-slot-clause-stays g c none =
    let d = c.self.inside in
    (ap (λ (r : Records). record { parts = parts_in (v g) d.book r d.requests d.table d.peers.items; ends = ends_of d.peers.items }) (same g c) ∙ c.self.view_is, refl)

-- ---- one does

abbrev p : (g : Over) → Inside g.row.P.Denot → Parts
p g d = parts_in (v g) d.book d.endpoints d.requests d.table d.peers.items

there : (g : Over) (c : goal.After-self-1 g) → place_at (state_of (p g c.self.inside)) c.args.at ≡ Some c.args.place
there g c = subst (λ (x : Holding g.row.P.Denot). place_at (state_of x.parts) c.args.at ≡ Some c.args.place) (sym c.self.view_is) c.requires.there

pub give-got-requires-clause-queued : goal.give-got-requires-clause-queued
give-got-requires-clause-queued g c =
    let d = c.self.inside in
    best-queued plain d.book d.endpoints d.requests d.table (p g c.self.inside).peers c.self.invariant c.args.place (waiting c.in_ok-slot.slot c.in_ok-slot.field-0-1) c.in_ok-slot.ensures.best

pub give-got-requires-clause-short : goal.give-got-requires-clause-short
give-got-requires-clause-short g c =
    let d = c.self.inside in
    content-fits plain d.book d.endpoints d.requests d.table (p g c.self.inside).peers c.self.invariant c.in_ok-slot.slot

pub give_back-requires-clause-queued : goal.give_back-requires-clause-queued
give_back-requires-clause-queued g c =
    let d = c.self.inside in
    best-queued plain d.book d.endpoints d.requests d.table (p g c.self.inside).peers c.self.invariant c.args.place (waiting c.in_ok-slot.slot c.in_ok-slot.field-0-1) c.in_ok-slot.ensures.best

pub give_back-requires-clause-out : goal.give_back-requires-clause-out
give_back-requires-clause-out g c = subst (λ ps. AreOutAt (v g) c.in_ok-slot.slot.peer (frames_at c.self.inside.book c.in_ok-slot.slot) ps) (sym c.deref_mut.ensures.value) (out-unseen (v g) c.in_ok-slot.slot.peer (frames_at c.self.inside.book c.in_ok-slot.slot) c.self.inside.peers.items (best_dropped-out (p g c.self.inside) c.self.invariant c.args.place (waiting c.in_ok-slot.slot c.in_ok-slot.field-0-1) c.in_ok-slot.ensures.best))

gave : (g : Over) (c : goal.After-self-1 g) → GivesBack g.P.PeerLane.Moved (v g) c.in_ok-slot.slot.peer (frames_at c.self.inside.book c.in_ok-slot.slot) c.self.inside.peers.items c.give_back.new.peers
gave g c = subst (λ ps. GivesBack g.P.PeerLane.Moved (v g) c.in_ok-slot.slot.peer (frames_at c.self.inside.book c.in_ok-slot.slot) ps c.give_back.new.peers) c.deref_mut.ensures.value c.give_back.ensures.gives

peers-are : (g : Over) (c : goal.After-self-1 g) → (with_items c.self.inside.peers c.give_back.new.peers).items ≡ c.give_back.new.peers
peers-are g c = with_items_is c.self.inside.peers c.give_back.new.peers (given-length g.P.PeerLane.Moved (v g) c.in_ok-slot.slot.peer (frames_at c.self.inside.book c.in_ok-slot.slot) c.self.inside.peers.items c.give_back.new.peers (gave g c) ∙ sym c.self.inside.peers.ok.0)

after : (g : Over) (c : goal.After-self-1 g) → parts_in (v g) c.give_back.new.book c.take_best.new.self c.self.inside.requests c.self.inside.table (with_items c.self.inside.peers c.give_back.new.peers).items ≡ done (best_dropped c.args.place c.in_ok-slot.slot (frames_at c.self.inside.book c.in_ok-slot.slot)) (p g c.self.inside)
after g c =
    let b = c.give_back.ensures.book in
    let r = c.take_best.ensures.rest in
    let ps = ap (peers_seen (v g)) (peers-are g c) ∙ given-seen (v g) g.P.PeerLane.Moved g.met.P.PeerLane.none c.in_ok-slot.slot.peer (frames_at c.self.inside.book c.in_ok-slot.slot) c.self.inside.peers.items c.give_back.new.peers c.self.invariant.peers.rising (gave g c) in
    cc

pub invariant_of-self-2 : goal.invariant_of-self-2
invariant_of-self-2 g c = subst Sound (sym (after g c)) (best_dropped-keeps (p g c.self.inside) c.self.invariant c.args.place (waiting c.in_ok-slot.slot c.in_ok-slot.field-0-1) c.in_ok-slot.ensures.best)

pub returns-clause-succeeds : goal.returns-clause-succeeds
returns-clause-succeeds g c =
    let d = c.self.inside in
    let M = g.P.PeerLane.Moved in
    let call = receive_at c.args.at.port (length c.args.out.now) in
    let w = waiting c.in_ok-slot.slot c.in_ok-slot.field-0-1 in
    let best = c.in_ok-slot.ensures.best in
    let is = best_dropped-steps (p g d) c.self.invariant c.args.place w best c.args.at (there g c) (length c.args.out.now) in
    let steps = best_dropped c.args.place c.in_ok-slot.slot (frames_at d.book c.in_ok-slot.slot) ∷ [] in
    let old = holding_in (v g) d.book d.endpoints d.requests d.table d.peers.items in
    let now = holding_in (v g) c.give_back.new.book c.take_best.new.self d.requests d.table (with_items d.peers c.give_back.new.peers).items in
    let moved = subst (λ ps. AllMoved M (ends_of d.peers.items) (map (all_moves steps) (numbers_of (p g d).peers)) (ends_of ps)) (sym (peers-are g c)) (given-moved (v g) M g.met.P.PeerLane.none c.in_ok-slot.slot.peer (frames_at d.book c.in_ok-slot.slot) d.peers.items c.give_back.new.peers c.self.invariant.peers.rising (gave g c)) in
    let did : Did M steps old now = record { parts = after g c; moved = moved } in
    subst (λ (x : Holding g.row.P.Denot). Succeeds M c.args.at.node call x now None) c.self.view_is
    (record {
      did = subst (λ (cs : List Step). Did M cs old now) (sym is) did;
      means = receive-means (p g d) c.self.invariant c.args.place w best c.args.at (there g c) (length c.args.out.now);
    })

pub returns-clause-answer : goal.returns-clause-answer
returns-clause-answer g c =
    subst (λ (x : Holding g.row.P.Denot). gives c.give-got.result.size (take c.give-got.result.given c.give-got.new.out) ≡ success (state_of x.parts) c.args.at.node (receive_at c.args.at.port (length c.args.out.now))) c.self.view_is
    (best_dropped-answer (p g c.self.inside) c.self.invariant c.args.place (waiting c.in_ok-slot.slot c.in_ok-slot.field-0-1) c.in_ok-slot.ensures.best c.args.at (there g c) (length c.args.out.now) _ _ c.give-got.ensures.size c.give-got.ensures.bytes)

one-waits : (ws : List Waiting) (w : Waiting) → best (λ (x : Waiting). x.priority) ws ≡ Some w → (length (map (λ (x : Waiting). x.slot) ws) == 0) ≡ false
one-waits [] w is = absurd cc
one-waits (x ∷ ws) w is = grind arith

pub returns-clause-some : goal.returns-clause-some
returns-clause-some g c =
    let d = c.self.inside in
    let w = waiting c.in_ok-slot.slot c.in_ok-slot.field-0-1 in
    subst (λ (x : Holding g.row.P.Denot). (length (queue_at (state_of x.parts) c.args.at) == 0) ≡ false) c.self.view_is
    (subst (λ (n : ℕ). (n == 0) ≡ false) (queue-long (p g d) c.args.at c.args.place (there g c)) (one-waits (waiting_in (slice_get d.endpoints.endpoints c.args.place)) w c.in_ok-slot.ensures.best))
