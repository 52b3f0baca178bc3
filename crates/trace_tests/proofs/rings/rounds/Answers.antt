use Rattle.std.proofs.Common.{◌≡◌, ◌∙◌, List, [], ◌∷◌, ◌++◌, refl, ap}
use Rattle.shared_words.specs.Entry.{Entry}
use Rattle.split_ring.specs.Ends.{End}
use Rattle.ring_trace.proofs.Within.{one_more_within}
use Rattle.trace_tests.proofs.Rounds.{still}
use Rattle.trace_tests.proofs.rings.rounds.Goals as goal

pub loop-done-preserved : goal.loop-done-preserved
loop-done-preserved c =
    let inv = c.loop-done.invariant in
    let given : Entry = (c.in-Some.frame, c.args.lengths.returned) in
    let back = still c.offer.new.self c.reclaim.new.self (c.in-Some-reclaim.back, c.in-Some-reclaim.field-0-1) c.in-Some-reclaim.ensures.reclaimed in
    let fetched = still c.loop-done.device c.fetch.new.self (c.in-Some.frame, c.in-Some.field-0-1) c.in-Some.ensures.fetched in
    record {
      driver = back.0 ∙ (ap (λ (h : End). h.ring) c.offer.ensures.offered ∙ inv.driver);
      device = ap (λ (h : End). h.ring) c.give.ensures.returned ∙ (fetched.0 ∙ inv.device);
      held = c.in-Some-reclaim.ensures.held;
      returned = one_more_within (λ (e : Entry). e.1 ≡ c.args.lengths.returned) c.loop-done.device.written c.give.new.self.written given inv.returned
          (ap (λ (h : End). h.written) c.give.ensures.returned ∙ ap (λ (es : List Entry). es ++ given ∷ []) fetched.1) refl;
    }
