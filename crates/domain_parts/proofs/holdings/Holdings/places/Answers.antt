use Rattle.std.proofs.Common.{◌≡◌, ◌∙◌, ◌+◌, ◌≤◌, ap, sym, refl, subst, arith, map, ℕ, List, Option, Some, None, true, false, is_some}
use Rattle.std.specs.Prelude.{Contains, IsNone, position, ◌==◌}
use Rattle.board_model.specs.State.{lent_from, queued_from}
use Rattle.domain_parts.specs.Parts.{state_of}
use Rattle.domain_parts.proofs.Stepping.{sound-unseen, state-seen}
use Rattle.domain_parts.specs.InBook.{frames_count, open_parts}
use Rattle.domain_parts.specs.InRequests.{handed_slots}
use Rattle.domain_parts.specs.LaneSeen.{LaneSeen}
use Rattle.domain_parts.specs.Records.{lent_slots}
use Rattle.domain_parts.specs.Sound.{AreSound}
use Rattle.domain_parts.specs.declared.holdings.Holdings.TheInside.{Inside}
use Rattle.domain_parts.proofs.CountsFrom as counts
use Rattle.domain_parts.proofs.CountsFrom.{handed-queued, held-few, lent-is, queue-from, queued-is}
use Rattle.domain_parts.proofs.PeerPlaces.{contained-found, found-contained, number-place, numbers-in}
use Rattle.domain_parts.proofs.holdings.Holdings.places.Given.{Over}
use Rattle.board_model.proofs.UnnamedCounts.{lent-unnamed, queued-unnamed}
use Rattle.domain_parts.proofs.holdings.Holdings.places.Goals as goal

absurd-no : true ≡ false → ⊥
absurd-no e = cc

none-some : (o : Option ℕ) → None ≡ o → is_some o ≡ true → ⊥
none-some None e there = absurd-no (sym there)
none-some (Some i) e there = absurd cc

-- ---- no peer has the number

pub returns-in_err-place_of-clause-none : goal.returns-in_err-place_of-clause-none
returns-in_err-place_of-clause-none g c =
    let d = c.self.inside in
    let v = g.P.PeerLane.seen in
    let at = subst (λ ps. None ≡ position (λ p. p.number == c.args.peer) ps) c.deref.ensures.value c.in_err-place_of.ensures.place ∙ number-place d.peers.items c.args.peer in
    let same = sym (ap (λ s. map (λ p. p.number) s.peers) (state-seen v d.book d.endpoints d.requests d.table d.peers.items) ∙ ap (λ x. map (λ p. p.number) (state_of x.parts).peers) c.self.view_is) ∙ numbers-in v (open_parts d.book d.endpoints.parts) d.table d.peers.items in
    (λ none has. none-some _ at (contained-found _ c.args.peer (subst (λ (ns : List ℕ). Contains ns c.args.peer) same has)), λ none. subst IsNone (sym c.from_residual.ensures) refl)

-- ---- a peer has it

module _ (g : Over) (c : goal.After-places-held g) where
  abbrev d : Inside g.row.P.Denot
  d = c.self.inside

  abbrev v : g.row.P.Denot → LaneSeen
  v = g.P.PeerLane.seen

  sound : AreSound v d.book d.endpoints d.requests d.table d.peers.items
  sound = sound-unseen v d.book d.endpoints d.requests d.table d.peers.items c.self.invariant

  found : Some c.in_ok-place_of.field-0 ≡ position (λ p. p.number == c.args.peer) d.peers.items
  found = subst (λ ps. Some c.in_ok-place_of.field-0 ≡ position (λ p. p.number == c.args.peer) ps) c.deref.ensures.value c.in_ok-place_of.ensures.place

  few : frames_count d.book c.args.peer (handed_slots d.requests.standing) + frames_count d.book c.args.peer (lent_slots d.endpoints) ≤ 256
  few = held-few v d.book d.endpoints d.requests d.table d.peers.items sound c.args.peer c.in_ok-place_of.field-0 found

pub handed_from-handed-requires-clause-queued : goal.handed_from-handed-requires-clause-queued
handed_from-handed-requires-clause-queued g c =
    let d = c.self.inside in
    let v = g.P.PeerLane.seen in
    handed-queued v d.book d.endpoints d.requests d.table d.peers.items (sound-unseen v d.book d.endpoints d.requests d.table d.peers.items c.self.invariant) c.args.peer

pub handed_from-handed-requires-clause-few : goal.handed_from-handed-requires-clause-few
handed_from-handed-requires-clause-few g c = omega (arith, few g c)

-- the book has as many of it as wait and were handed
pub overflow_sub-result : goal.overflow_sub-result
overflow_sub-result g c =
    let d = c.self.inside in
    let v = g.P.PeerLane.seen in
    let sound = sound-unseen v d.book d.endpoints d.requests d.table d.peers.items c.self.invariant in
    let held = c.places-held.ensures.queue ∙ queue-from v d.book d.endpoints d.requests d.table d.peers.items sound c.args.peer in
    omega (arith, held, c.handed_from-handed.ensures)

-- and as many as are lent
pub overflow_add-result : goal.overflow_add-result
overflow_add-result g c =
    let d = c.self.inside in
    let v = g.P.PeerLane.seen in
    let sound = sound-unseen v d.book d.endpoints d.requests d.table d.peers.items c.self.invariant in
    let held = c.places-held.ensures.lent ∙ counts.lent-from v d.book d.endpoints d.requests d.table d.peers.items sound c.args.peer in
    let found : Some c.in_ok-place_of.field-0 ≡ position (λ p. p.number == c.args.peer) d.peers.items = subst (λ ps. Some c.in_ok-place_of.field-0 ≡ position (λ p. p.number == c.args.peer) ps) c.deref.ensures.value c.in_ok-place_of.ensures.place in
    let few = held-few v d.book d.endpoints d.requests d.table d.peers.items sound c.args.peer c.in_ok-place_of.field-0 found in
    omega (arith, few, held, c.handed_from-handed.ensures)

pub returns-clause-none : goal.returns-clause-none
returns-clause-none g c =
    let d = c.self.inside in
    let v = g.P.PeerLane.seen in
    let at = subst (λ ps. Some c.in_ok-place_of.field-0 ≡ position (λ p. p.number == c.args.peer) ps) c.deref.ensures.value c.in_ok-place_of.ensures.place ∙ number-place d.peers.items c.args.peer in
    let same = sym (numbers-in v (open_parts d.book d.endpoints.parts) d.table d.peers.items) ∙ ap (λ s. map (λ p. p.number) s.peers) (state-seen v d.book d.endpoints d.requests d.table d.peers.items) ∙ ap (λ x. map (λ p. p.number) (state_of x.parts).peers) c.self.view_is in
    (λ e. absurd (absurd-no e), λ none. absurd (none (subst (λ (ns : List ℕ). Contains ns c.args.peer) same (found-contained _ c.args.peer c.in_ok-place_of.field-0 (sym at)))))

pub returns-clause-queue : goal.returns-clause-queue
returns-clause-queue g c =
    let d = c.self.inside in
    let v = g.P.PeerLane.seen in
    let sound = sound-unseen v d.book d.endpoints d.requests d.table d.peers.items c.self.invariant in
    let held = c.places-held.ensures.queue ∙ queue-from v d.book d.endpoints d.requests d.table d.peers.items sound c.args.peer in
    let queued = queued-unnamed c.args.peer (state_of c.args.self.now.parts) ∙ sym (ap (λ s. queued_from c.args.peer s) (state-seen v d.book d.endpoints d.requests d.table d.peers.items) ∙ ap (λ x. queued_from c.args.peer (state_of x.parts)) c.self.view_is) ∙ queued-is v d.book d.endpoints d.requests d.table d.peers.items c.args.peer in
    omega (arith, held, c.handed_from-handed.ensures, queued)

pub returns-clause-lent : goal.returns-clause-lent
returns-clause-lent g c =
    let d = c.self.inside in
    let v = g.P.PeerLane.seen in
    let sound = sound-unseen v d.book d.endpoints d.requests d.table d.peers.items c.self.invariant in
    let held = c.places-held.ensures.lent ∙ counts.lent-from v d.book d.endpoints d.requests d.table d.peers.items sound c.args.peer in
    let lent = lent-is v d.book d.endpoints d.requests d.table d.peers.items c.args.peer in
    let told = ap (λ s. lent_from c.args.peer s) (state-seen v d.book d.endpoints d.requests d.table d.peers.items) ∙ ap (λ x. lent_from c.args.peer (state_of x.parts)) c.self.view_is ∙ sym (lent-unnamed c.args.peer (state_of c.args.self.now.parts)) in
    omega (arith, lent, told, c.handed_from-handed.ensures, held)
