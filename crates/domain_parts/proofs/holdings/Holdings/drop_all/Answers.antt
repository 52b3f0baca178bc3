use Rattle.std.proofs.Common.{◌≡◌, ◌≤◌, ◌∙◌, ℕ, List, ◌∷◌, ◌++◌, [], length, ap, sym, refl, subst, arith}
use Rattle.std.proofs.lemmas.List.{append-nil, append_assoc, length-append, length-map, map_push}
use Rattle.mc_base.specs.declared.request.Slot.{Slot}
use Rattle.domain_parts.specs.Records.{slots_at, waiting_in}
use Rattle.std.specs.Prelude.{slice_get}
use Rattle.message_queue.specs.Queue.{Waiting}
use Rattle.domain_parts.specs.Parts.{Holding}
use Rattle.domain_parts.specs.Steps.{Did, Step, oldest_dropped}
use Rattle.domain_parts.specs.CallSteps.{Dropping, dropped_at, drops}
use Rattle.domain_parts.proofs.Dropping.{HaveFrames, have-own, have-then}
use Rattle.domain_parts.proofs.Stepping.{did-none, did-then}
use Rattle.domain_parts.proofs.holdings.Holdings.drop_all.Given.{Over}
use Rattle.domain_parts.proofs.holdings.Holdings.drop_all.Goals as goal

pub loop-init : goal.loop-init
loop-init g c =
    let d = c.self.inside in
    let v = g.P.PeerLane.seen in
    subst (λ (x : Holding g.row.P.Denot). Dropping g.P.PeerLane.Moved c.args.place 0 x x) c.self.view_is
    (record { gone = []; count = refl; all = refl; same = have-own d.book (slots_at d.endpoints c.args.place); did = did-none g.P.PeerLane.Moved g.met.P.PeerLane.none v d.book d.endpoints d.requests d.table d.peers.items })

pub loop-preserved : goal.loop-preserved
loop-preserved g c =
    let M = g.P.PeerLane.Moved in
    let i = c.args.place in
    let k = c.loop.invariant in
    let one = c.drop_oldest.ensures.did in
    let start = c.args.self.now.parts.book in
    let frames = subst (HaveFrames start c.loop.self.parts.book) one.1 k.same in
    record {
      gone = k.gone ++ one.0 ∷ [];
      count = let count = k.count in omega (arith, count, length-append k.gone (one.0 ∷ []));
      all = k.all ∙ ap (λ (ss : List Slot). k.gone ++ ss) one.1 ∙ sym (append_assoc k.gone (one.0 ∷ []) (slots_at c.drop_oldest.new.self.parts.records i));
      did = subst (λ (cs : List Step). Did M cs c.args.self.now c.drop_oldest.new.self) (sym (map_push (dropped_at start i) k.gone one.0))
          (did-then M g.met.P.PeerLane.both (drops start i k.gone) (dropped_at start i one.0 ∷ []) c.args.self.now c.loop.self c.drop_oldest.new.self k.did (subst (λ (fs : List ℕ). Did M (oldest_dropped i one.0 fs ∷ []) c.loop.self c.drop_oldest.new.self) frames.0 one.2));
      same = have-then start c.loop.self.parts.book c.drop_oldest.new.self.parts.book (slots_at c.drop_oldest.new.self.parts.records i) frames.1 c.drop_oldest.ensures.still;
    }

none-left : (gone left all : List Slot) → all ≡ gone ++ left → length all ≤ length gone → left ≡ []
none-left gone [] all is le = refl
none-left gone (s ∷ left) all is le = let long = ap length is ∙ length-append gone (s ∷ left) in absurd (omega (arith, long, le))

none : (g : Over) (c : goal.After-loop g) → slots_at c.loop.self.parts.records c.args.place ≡ []
none g c =
    let k = c.loop.invariant in
    let many = k.count in
    let count : c.queued_at-count.result ≡ length (slots_at c.args.self.now.parts.records c.args.place) = c.queued_at-count.ensures ∙ sym (length-map (waiting_in (slice_get c.self.inside.endpoints.endpoints c.args.place)) (λ (w : Waiting). w.slot)) ∙ ap (λ (x : Holding g.row.P.Denot). length (slots_at x.parts.records c.args.place)) c.self.view_is in
    none-left k.gone _ (slots_at c.args.self.now.parts.records c.args.place) k.all (omega (arith, many, count, c.loop-test.false))

pub returns-clause-none : goal.returns-clause-none
returns-clause-none g c = none g c

pub returns-clause-did : goal.returns-clause-did
returns-clause-did g c =
    let k = c.loop.invariant in
    let all = k.all ∙ ap (λ (ss : List Slot). k.gone ++ ss) (none g c) ∙ append-nil k.gone in
    subst (λ (ss : List Slot). Did g.P.PeerLane.Moved (drops c.args.self.now.parts.book c.args.place ss) c.args.self.now c.loop.self) (sym all) k.did
