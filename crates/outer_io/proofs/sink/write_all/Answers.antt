use Rattle.std.proofs.Common.{ℕ, ◌-◌, arith, subst, ◌∙◌}
use Rattle.outer_io.proofs.Appended.{one_write_more}
use Rattle.outer_io.proofs.Counted.{one_call_more}
use Rattle.outer_io.proofs.sink.write_all.Goals as goal

pub loop-done-preserved : goal.loop-done-preserved
loop-done-preserved g c = record {
  so_far = one_write_more _ _ _ c.args.piece.now c.loop-done.done c.in-Ok.count c.loop-done.invariant.so_far (rw c.split_at.ensures.back at c.in-Ok.ensures.bytes);
  few = one_call_more _ _ _ _ _ c.loop-done.invariant.few c.in-Ok.ensures.counted (omega (arith, c.in-Ok.ensures.bound));
  quiet = c.in-Ok.ensures.cause.quiet ∙ c.loop-done.invariant.quiet;
  within = omega (arith, c.in-Ok.ensures.bound);
  room = λ n takes fits.
      let after : g.K.Sink.takes c.write.new.self ((n - c.loop-done.done) - c.in-Ok.count) = c.in-Ok.ensures.room (n - c.loop-done.done) (c.loop-done.invariant.room n takes fits) (omega (arith, c.split_at.ensures.back_len)) in
      subst (λ (k : ℕ). g.K.Sink.takes c.write.new.self k) (omega arith) after;
  unmoved = λ none. absurd (omega (arith, c.in-Ok.ensures.bound));
}
