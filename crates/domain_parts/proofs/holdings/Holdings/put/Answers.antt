use Rattle.std.proofs.Common.{◌≡◌, ◌<◌, ◌∙◌, ◌∷◌, [], ap, sym, subst, length, map, None, Some, Option, arith}
use Rattle.std.specs.Prelude.{option_map, position, slice_set, unwrap_or, ◌==◌}
use Rattle.board_model.specs.State as state
use Rattle.board_model.specs.State.{free_to}
use Rattle.lane_end.specs.SendMoves.{Sent}
use Rattle.domain_parts.specs.LaneSeen.{LaneSeen}
use Rattle.domain_parts.specs.declared.holdings.Holdings.TheInside.{Inside}
use Rattle.domain_parts.specs.LaneMoves.{sender}
use Rattle.domain_parts.specs.Parts.{Holding, Parts, Sound, holding_in, parts_in, peers_seen, state_of}
use Rattle.domain_parts.specs.Steps.{Did, all_moves, done, frame_put}
use Rattle.domain_parts.specs.AllMoved.{AllMoved, ends_of, numbers_of}
use Rattle.domain_parts.proofs.PeerPlaces.{free-there, no-peer-in, peer-at}
use Rattle.domain_parts.proofs.Steps.{frame_put-keeps}
use Rattle.domain_parts.proofs.Stepping.{one-moved, one-seen, state-seen}
use Rattle.domain_parts.proofs.Tables.{slice_get-read}
use Rattle.domain_parts.proofs.holdings.Holdings.put.Given.{Over}
use Rattle.domain_parts.proofs.holdings.Holdings.put.Goals as goal

abbrev v : (g : Over) → (g.row.P.Denot → LaneSeen)
v g = g.P.PeerLane.seen

abbrev p : (g : Over) → Inside g.row.P.Denot → Parts
p g d = parts_in (v g) d.book d.endpoints d.requests d.table d.peers.items

some-is : {X : Type 0} {x y : X} → Some x ≡ Some y → x ≡ y
some-is e = cc

pub put-requires-clause-free : goal.put-requires-clause-free
put-requires-clause-free g c =
    let d = c.self.inside in
    let at = subst (λ ps. Some c.in-Some.place ≡ position (λ p. p.number == c.args.number) ps) c.deref.ensures.value c.in-Some.ensures.place in
    let within = subst (λ ps. c.in-Some.place < length ps) c.deref.ensures.value c.in-Some.ensures.within in
    let there = slice_get-read d.peers.items c.in-Some.place c.index_mut.result.now within c.index_mut.ensures.value in
    let free = ap (λ x. free_to (state_of x.parts) c.args.number) (sym c.self.view_is) ∙ sym (ap (λ s. free_to s c.args.number) (state-seen (v g) d.book d.endpoints d.requests d.table d.peers.items)) ∙ free-there (v g) d.book d.endpoints d.requests d.table d.peers.items c.args.number c.in-Some.place c.index_mut.result.now at there in
    let some = c.requires.free in
    omega (arith, free, some)

after : (g : Over) (c : goal.After-self-1 g) → (peers_seen (v g) (slice_set c.self.inside.peers.items c.in-Some.place (record c.index_mut.result.now { ends = c.put.new.self })) ≡ (done (frame_put c.args.number c.args.frame.now) (p g c.self.inside)).peers)
    × AllMoved g.P.PeerLane.Moved (ends_of c.self.inside.peers.items) (map (all_moves (frame_put c.args.number c.args.frame.now ∷ [])) (numbers_of (p g c.self.inside).peers)) (ends_of (slice_set c.self.inside.peers.items c.in-Some.place (record c.index_mut.result.now { ends = c.put.new.self })))
after g c =
    let d = c.self.inside in
    let i = c.in-Some.place in
    let M = g.P.PeerLane.Moved in
    let none = g.met.P.PeerLane.none in
    let x = c.index_mut.result.now in
    let e = c.put.new.self in
    let put = sender (Sent c.args.frame.now) ∷ [] in
    let at = subst (λ ps. Some i ≡ position (λ p. p.number == c.args.number) ps) c.deref.ensures.value c.in-Some.ensures.place in
    let within = subst (λ ps. i < length ps) c.deref.ensures.value c.in-Some.ensures.within in
    let there = slice_get-read d.peers.items i x within c.index_mut.ensures.value in
    let found = peer-at d.peers.items c.args.number i at in
    let is : x.number ≡ c.args.number = (let same : found.0 ≡ x = some-is (sym found.1 ∙ there) in ap (λ y. y.number) (sym same) ∙ found.2) in
    let seen = c.put.ensures.seen in
    (one-seen (v g) M none c.args.number put d.peers.items i x e c.self.invariant.peers.rising there is seen, one-moved (v g) M none c.args.number put d.peers.items i x e c.self.invariant.peers.rising there is c.put.ensures.moved)

pub invariant_of-self : goal.invariant_of-self
invariant_of-self g c =
    let d = c.self.inside in
    subst (λ ps. Sound (record (p g d) { peers = ps })) (sym (after g c).0) (frame_put-keeps (p g d) c.args.number c.args.frame.now c.self.invariant)

pub returns-in-Some : goal.returns-in-Some
returns-in-Some g c =
    let d = c.self.inside in
    let steps = frame_put c.args.number c.args.frame.now ∷ [] in
    let now = holding_in (v g) d.book d.endpoints d.requests d.table (slice_set d.peers.items c.in-Some.place (record c.index_mut.result.now { ends = c.put.new.self })) in
    let did : Did g.P.PeerLane.Moved steps (holding_in (v g) d.book d.endpoints d.requests d.table d.peers.items) now = record { parts = ap (λ ps. record (p g d) { peers = ps }) (after g c).0; moved = (after g c).1 } in
    subst (λ (x : Holding g.row.P.Denot). Did g.P.PeerLane.Moved steps x now) c.self.view_is did

pub returns-in_default : goal.returns-in_default
returns-in_default g c =
    let d = c.self.inside in
    let at = subst (λ ps. None ≡ position (λ p. p.number == c.args.number) ps) c.deref.ensures.value c.in_default.ensures.place in
    let none : free_to (state_of c.args.self.now.parts) c.args.number ≡ 0
    = sym (ap (λ s. free_to s c.args.number) (state-seen (v g) d.book d.endpoints d.requests d.table d.peers.items) ∙ ap (λ x. free_to (state_of x.parts) c.args.number) c.self.view_is)
    ∙ ap (λ (o : Option state.Peer). unwrap_or (option_map (λ (x : state.Peer). x.free) o) 0) (no-peer-in (v g) d.book d.endpoints d.requests d.table d.peers.items c.args.number at) in
    let some = c.requires.free in
    absurd (omega (arith, none, some))
