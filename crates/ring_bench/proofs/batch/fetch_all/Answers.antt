use Rattle.std.proofs.Common.{◌∙◌}
use Rattle.std.specs.Prelude.{is_ok}
use Rattle.shared_words.specs.declared.view.Role.TheVariants as role
use Rattle.shared_words.specs.Entry.{Entry}
use Rattle.ring_bench.proofs.Batches.{taken_ring, pushed_held}
use Rattle.ring_bench.proofs.batch.fetch_all.Goals as goal

pub loop-preserved : goal.loop-preserved
loop-preserved c = let inv = c.loop.invariant in let e : Entry = (c.in-Some.buffer, c.in-Some.field-0-1) in record {
  ring = taken_ring c.loop.device c.fetch.new.self e c.in-Some.ensures.fetched ∙ inv.ring;
  held = pushed_held role.Device c.loop.device c.fetch.new.self c.loop.held.items c.push_back.new.self.items e (is_ok c.push_back.result) c.if-is_err.ensures.negation c.push_back.ensures.items inv.sound c.in-Some.ensures.fetched inv.held c.in-Some.ensures.held.1;
  sound = c.fetch.ensures.sound;
}
