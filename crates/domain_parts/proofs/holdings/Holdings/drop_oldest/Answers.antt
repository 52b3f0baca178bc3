use Rattle.std.proofs.Common.{◌≡◌, ◌∙◌, ◌∷◌, [], ap, sym, refl, subst, None}
use Rattle.std.specs.Vec.{with_items}
use Rattle.std.proofs.lemmas.List.{with_items_is}
use Rattle.mc_base.specs.declared.request.Slot.{Slot}
use Rattle.domain_parts.specs.LaneSeen.{LaneSeen}
use Rattle.domain_parts.specs.Records.{Records, slots_at}
use Rattle.domain_parts.specs.declared.holdings.Holdings.TheInside.{Inside}
use Rattle.domain_parts.specs.GivingBack.{AreOutAt, GivesBack}
use Rattle.domain_parts.specs.InBook.{frames_at}
use Rattle.domain_parts.specs.Parts.{Holding, Parts, Sound, holding_in, parts_in}
use Rattle.domain_parts.specs.Steps.{Did, oldest_dropped, without_frames}
use Rattle.std.specs.List.{AllByRecursion}
use Rattle.buffer_book.specs.Book.{Book}
use Rattle.domain_parts.proofs.Dropping.{frames-left}
use Rattle.domain_parts.proofs.GivingLemmas.{given-length}
use Rattle.domain_parts.proofs.Steps.{oldest_dropped-keeps, oldest_dropped-left, oldest_dropped-out, oldest_dropped-queued}
use Rattle.domain_parts.proofs.Stepping.{dropped-did, dropped-parts, out-unseen}
use Rattle.domain_parts.proofs.holdings.Holdings.drop_oldest.Given.{Over}
use Rattle.domain_parts.proofs.holdings.Holdings.drop_oldest.Goals as goal

abbrev v : (g : Over) → (g.row.P.Denot → LaneSeen)
v g = g.P.PeerLane.seen

abbrev p : (g : Over) → Inside g.row.P.Denot → Parts
p g d = parts_in (v g) d.book d.endpoints d.requests d.table d.peers.items

pub give_back-requires-clause-queued : goal.give_back-requires-clause-queued
give_back-requires-clause-queued g c = oldest_dropped-queued (p g c.self.inside) c.self.invariant c.args.place c.unwrap-slot.result (sym c.unwrap-slot.ensures ∙ c.take_oldest.ensures.oldest)

pub give_back-requires-clause-out : goal.give_back-requires-clause-out
give_back-requires-clause-out g c = subst (λ ps. AreOutAt (v g) c.unwrap-slot.result.peer (frames_at c.self.inside.book c.unwrap-slot.result) ps) (sym c.deref_mut.ensures.value) (out-unseen (v g) c.unwrap-slot.result.peer (frames_at c.self.inside.book c.unwrap-slot.result) c.self.inside.peers.items (oldest_dropped-out (p g c.self.inside) c.self.invariant c.args.place c.unwrap-slot.result (sym c.unwrap-slot.ensures ∙ c.take_oldest.ensures.oldest)))

gave : (g : Over) (c : goal.After-self-1 g) → GivesBack g.P.PeerLane.Moved (v g) c.unwrap-slot.result.peer (frames_at c.self.inside.book c.unwrap-slot.result) c.self.inside.peers.items (with_items c.self.inside.peers c.give_back.new.peers).items
gave g c =
    let d = c.self.inside in
    let M = g.P.PeerLane.Moved in
    let gives = subst (λ ps. GivesBack M (v g) c.unwrap-slot.result.peer (frames_at d.book c.unwrap-slot.result) ps c.give_back.new.peers) c.deref_mut.ensures.value c.give_back.ensures.gives in
    subst (λ ps. GivesBack M (v g) c.unwrap-slot.result.peer (frames_at d.book c.unwrap-slot.result) d.peers.items ps) (sym (with_items_is d.peers c.give_back.new.peers (given-length M (v g) c.unwrap-slot.result.peer (frames_at d.book c.unwrap-slot.result) d.peers.items c.give_back.new.peers gives ∙ sym d.peers.ok.0))) gives

pub invariant_of-self : goal.invariant_of-self
invariant_of-self g c =
    let d = c.self.inside in
    subst Sound (sym (dropped-parts (v g) g.P.PeerLane.Moved g.met.P.PeerLane.none c.unwrap-slot.result.peer (frames_at d.book c.unwrap-slot.result) d.peers.items _ c.self.invariant.peers.rising (gave g c) d.book c.give_back.new.book d.endpoints c.take_oldest.new.self d.requests d.table (oldest_dropped c.args.place c.unwrap-slot.result (frames_at d.book c.unwrap-slot.result)) c.give_back.ensures.book c.take_oldest.ensures.rest refl refl refl (λ xs. refl)))
    (oldest_dropped-keeps (p g d) c.self.invariant c.args.place c.unwrap-slot.result (sym c.unwrap-slot.ensures ∙ c.take_oldest.ensures.oldest))

pub returns-clause-still : goal.returns-clause-still
returns-clause-still g c =
    let d = c.self.inside in
    let s = c.unwrap-slot.result in
    let left = frames-left (p g d) c.self.invariant c.args.place s (sym c.unwrap-slot.ensures ∙ c.take_oldest.ensures.oldest) in
    subst (λ (x : Holding g.row.P.Denot). AllByRecursion (λ t. frames_at c.give_back.new.book t ≡ frames_at x.parts.book t) (slots_at c.take_oldest.new.self c.args.place)) c.self.view_is
    (subst (λ (b : Book). AllByRecursion (λ t. frames_at b t ≡ frames_at d.book t) (slots_at c.take_oldest.new.self c.args.place)) (sym c.give_back.ensures.book)
    (subst (λ (r : Records). AllByRecursion (λ t. frames_at (without_frames d.book s None (frames_at d.book s)) t ≡ frames_at d.book t) (slots_at r c.args.place)) (sym c.take_oldest.ensures.rest) left))

pub returns-clause-did : goal.returns-clause-did
returns-clause-did g c =
    let d = c.self.inside in
    let s = c.unwrap-slot.result in
    let step = oldest_dropped c.args.place s (frames_at d.book s) in
    let now = holding_in (v g) c.give_back.new.book c.take_oldest.new.self d.requests d.table (with_items d.peers c.give_back.new.peers).items in
    let did = dropped-did (v g) g.P.PeerLane.Moved g.met.P.PeerLane.none s.peer (frames_at d.book s) d.peers.items _ c.self.invariant.peers.rising (gave g c) d.book c.give_back.new.book d.endpoints c.take_oldest.new.self d.requests d.table step c.give_back.ensures.book c.take_oldest.ensures.rest refl refl refl (λ xs. refl) in
    let left = oldest_dropped-left (p g d) c.self.invariant c.args.place s (sym c.unwrap-slot.ensures ∙ c.take_oldest.ensures.oldest) ∙ ap (λ (r : Records). s ∷ slots_at r c.args.place) (sym c.take_oldest.ensures.rest) in
    subst (λ (x : Holding g.row.P.Denot). (s : Slot) × (slots_at x.parts.records c.args.place ≡ s ∷ slots_at c.take_oldest.new.self c.args.place) × Did g.P.PeerLane.Moved (oldest_dropped c.args.place s (frames_at x.parts.book s) ∷ []) x now) c.self.view_is (s, left, did)
