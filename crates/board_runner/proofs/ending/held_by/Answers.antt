use Rattle.std.proofs.Common.{◌+◌, ◌∙◌, ℕ, length, slice_set, ap, sym, subst, refl, arith}
use Rattle.std.proofs.lemmas.List.{length-set}
use Rattle.board_numbers.specs.declared.tally.HeldBuffers.{HeldBuffers}
use Rattle.board_runner.proofs.HoldingLemmas.{HeldBelow, held-more, held-skip}
use Rattle.board_runner.proofs.ending.held_by.Goals as goal
use Rattle.board_runner.proofs.ending.held_by.Goals.{in-Some, in_default}

pub loop-peer-preserved : goal.loop-peer-preserved
loop-peer-preserved c =
    let s = c.args.domain.now.state in
    let k = c.loop-peer.peer in
    let old = c.loop-peer.held in
    let so_far = c.loop-peer.invariant in
    elim c.match-places.branch [
      | in-Some w ↦
          let p = w.in-Some.places in
          let at = ap (λ (i : ℕ). slice_set old.places i p) w.from.ensures in
          record {
            queued = ap (λ (h : HeldBuffers). h.queued) w.held-is ∙ so_far.queued;
            eight = ap (λ (h : HeldBuffers). length h.places) w.held-is ∙ length-set old.places w.from.result p ∙ so_far.eight;
            places = subst (HeldBelow s (k + 1)) (sym (ap (λ (h : HeldBuffers). h.places) w.held-is ∙ at))
                (held-more s k old.places so_far.places p (omega (arith, c.loop-peer-test.true, c.loop-peer.auto.peer-end, so_far.eight)) w.in-Some.ensures.queue w.in-Some.ensures.lent);
          }
      | in_default w ↦ record {
        queued = ap (λ (h : HeldBuffers). h.queued) w.held-is ∙ so_far.queued;
        eight = ap (λ (h : HeldBuffers). length h.places) w.held-is ∙ so_far.eight;
        places = subst (HeldBelow s (k + 1)) (sym (ap (λ (h : HeldBuffers). h.places) w.held-is)) (held-skip s k old.places so_far.places (w.in_default.ensures.none.0 refl));
      }
    ]
