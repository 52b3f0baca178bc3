use Rattle.std.proofs.Common.{◌∙◌, ℕ, List, Option, Some, None, sym, refl, subst}
use Rattle.std.specs.Vec.{with_items}
use Rattle.std.proofs.lemmas.List.{with_items_is}
use Rattle.board_model.specs.DomainCall.{release_of}
use Rattle.board_model.specs.Journal.{agrees}
use Rattle.buffer_book.specs.Book.{slot_of}
use Rattle.domain_parts.specs.LaneSeen.{LaneSeen}
use Rattle.domain_parts.specs.declared.holdings.Holdings.TheInside.{Inside}
use Rattle.domain_parts.specs.CallSteps.{Acts}
use Rattle.domain_parts.specs.DomainView.{place_of_packet_id}
use Rattle.domain_parts.specs.GivingBack.{AreOutAt, GivesBack}
use Rattle.domain_parts.specs.InBook.{frames_at}
use Rattle.domain_parts.specs.Parts.{Holding, Parts, Sound, holding_in, parts_in, plain}
use Rattle.domain_parts.specs.Steps.{Did, Step, packet_released}
use Rattle.domain_parts.proofs.GivingLemmas.{all-stand, given-length}
use Rattle.domain_parts.proofs.Releasing.{found-id, id-lent, release-done, release-means, release-steps, released-keeps, released-out}
use Rattle.domain_parts.proofs.Stepping.{acts-done, dropped-did, dropped-parts, out-unseen}
use Rattle.domain_parts.proofs.holdings.Holdings.end_packet.Given.{Over}
use Rattle.domain_parts.proofs.holdings.Holdings.end_packet.Goals as goal

abbrev v : (g : Over) → (g.row.P.Denot → LaneSeen)
v g = g.P.PeerLane.seen

abbrev p : (g : Over) → Inside g.row.P.Denot → Parts
p g d = parts_in (v g) d.book d.endpoints d.requests d.table d.peers.items

pub give_back_lent-requires-clause-none_aside : goal.give_back_lent-requires-clause-none_aside
give_back_lent-requires-clause-none_aside g c =
    let d = c.self.inside in
    (all-stand plain d.book d.endpoints d.requests d.table (p g d).peers c.self.invariant).none_aside

pub give_back_lent-requires-clause-lent : goal.give_back_lent-requires-clause-lent
give_back_lent-requires-clause-lent g c = id-lent (p g c.self.inside) c.self.invariant c.args.id c.in-Some.place (sym c.in-Some.ensures.place)

pub give_back_lent-requires-clause-out : goal.give_back_lent-requires-clause-out
give_back_lent-requires-clause-out g c =
    let d = c.self.inside in
    let found = found-id d.endpoints.lent c.args.id c.in-Some.place (sym c.in-Some.ensures.place) in
    subst (λ ps. AreOutAt (v g) c.args.id.peer (frames_at d.book (slot_of c.args.id)) ps) (sym c.deref_mut.ensures.value) (out-unseen (v g) c.args.id.peer (frames_at d.book (slot_of c.args.id)) d.peers.items (released-out (p g d) c.self.invariant c.in-Some.place c.args.id found))

gave : (g : Over) (c : goal.After-self-1 g) → GivesBack g.P.PeerLane.Moved (v g) c.args.id.peer (frames_at c.self.inside.book (slot_of c.args.id)) c.self.inside.peers.items (with_items c.self.inside.peers c.give_back_lent.new.peers).items
gave g c =
    let d = c.self.inside in
    let M = g.P.PeerLane.Moved in
    let gives = subst (λ ps. GivesBack M (v g) c.args.id.peer (frames_at d.book (slot_of c.args.id)) ps c.give_back_lent.new.peers) c.deref_mut.ensures.value c.give_back_lent.ensures.gives in
    subst (λ ps. GivesBack M (v g) c.args.id.peer (frames_at d.book (slot_of c.args.id)) d.peers.items ps) (sym (with_items_is d.peers c.give_back_lent.new.peers (given-length M (v g) c.args.id.peer (frames_at d.book (slot_of c.args.id)) d.peers.items c.give_back_lent.new.peers gives ∙ sym d.peers.ok.0))) gives

pub invariant_of-self : goal.invariant_of-self
invariant_of-self g c =
    let d = c.self.inside in
    let found = found-id d.endpoints.lent c.args.id c.in-Some.place (sym c.in-Some.ensures.place) in
    subst Sound (sym (dropped-parts (v g) g.P.PeerLane.Moved g.met.P.PeerLane.none c.args.id.peer (frames_at d.book (slot_of c.args.id)) d.peers.items _ c.self.invariant.peers.rising (gave g c) d.book c.give_back_lent.new.book d.endpoints c.drop_lent.new.self d.requests d.table (packet_released c.in-Some.place c.args.id (frames_at d.book (slot_of c.args.id))) c.give_back_lent.ensures.book c.drop_lent.ensures refl refl refl (λ xs. refl)))
    (released-keeps (p g d) c.self.invariant c.in-Some.place c.args.id found)

pub returns : goal.returns
returns g c =
    let d = c.self.inside in
    let M = g.P.PeerLane.Moved in
    let id = c.args.id in
    let i = c.in-Some.place in
    let found = found-id d.endpoints.lent id i (sym c.in-Some.ensures.place) in
    let old = holding_in (v g) d.book d.endpoints d.requests d.table d.peers.items in
    let now = holding_in (v g) c.give_back_lent.new.book c.drop_lent.new.self d.requests d.table (with_items d.peers c.give_back_lent.new.peers).items in
    let did = dropped-did (v g) M g.met.P.PeerLane.none id.peer (frames_at d.book (slot_of id)) d.peers.items _ c.self.invariant.peers.rising (gave g c) d.book c.give_back_lent.new.book d.endpoints c.drop_lent.new.self d.requests d.table (packet_released i id (frames_at d.book (slot_of id))) c.give_back_lent.ensures.book c.drop_lent.ensures refl refl refl (λ xs. refl) in
    let acts : Acts M 0 (release_of (Some i)) old now agrees None = acts-done M 0 (release_of (Some i)) old now agrees None (release-done (p g d) c.self.invariant i id found) refl
    (record {
      did = subst (λ (cs : List Step). Did M cs old now) (sym (release-steps (p g d) c.self.invariant i id found)) did;
      means = release-means (p g d) c.self.invariant i id found;
    }) in
    subst (λ (x : Holding g.row.P.Denot). Acts M 0 (release_of (place_of_packet_id x.parts.records.lent id)) x now agrees None) c.self.view_is
    (subst (λ (o : Option ℕ). Acts M 0 (release_of o) old now agrees None) c.in-Some.ensures.place acts)
