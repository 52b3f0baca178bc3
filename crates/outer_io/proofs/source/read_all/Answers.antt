use Rattle.std.proofs.Common.{◌+◌, ◌≡◌, ◌++◌, ◌∙◌, length, take, arith, rules}
use Rattle.std.proofs.lemmas.Grind.{common_steps}
use Rattle.std.proofs.KnownBytes.{Consumes-trans}
use Rattle.outer_io.proofs.Counted.{one_call_more}
use Rattle.outer_io.proofs.source.read_all.Goals as goal

pub loop-count-preserved : goal.loop-count-preserved
loop-count-preserved g c =
    let grown : c.extend_from_slice.new.self.items ≡ c.loop-count.bytes.items ++ take c.in-Ok.count c.read.new.buf = grind (arith, common_steps) in
    let size : length c.extend_from_slice.new.self.items ≡ length c.loop-count.bytes.items + c.in-Ok.count = grind (arith, common_steps) in
    record {
      so_far = rw grown (Consumes-trans _ _ _ _ _ c.loop-count.invariant.so_far c.in-Ok.ensures.bytes.0);
      quiet = c.in-Ok.ensures.cause.quiet ∙ c.loop-count.invariant.quiet;
      within = omega arith;
      chunk = search rules;
      reads = one_call_more _ _ _ _ _ c.loop-count.invariant.reads c.read.ensures.counted (omega arith);
      before_end = c.in-Ok.ensures.ended.1 (omega arith) ∙ c.loop-count.invariant.before_end;
      sound = λ never. (c.read.ensures.sound (c.loop-count.invariant.sound never)).1;
    }
