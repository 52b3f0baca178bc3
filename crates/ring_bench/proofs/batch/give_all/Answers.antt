use Rattle.std.proofs.Common.{◌∙◌, ap}
use Rattle.shared_words.specs.declared.view.Role.TheVariants as role
use Rattle.split_ring.specs.Ends.{End}
use Rattle.split_ring.proofs.HeldLemmas.{first_held, tail_held}
use Rattle.ring_bench.proofs.batch.give_all.Goals as goal

pub give-requires-clause-holds : goal.give-requires-clause-holds
give-requires-clause-holds c = first_held role.Device c.loop-buffer.device c.loop-buffer.held.items c.pop_front.new.self.items c.in-Some.buffer c.in-Some.ensures.items c.loop-buffer.invariant.held

pub loop-buffer-preserved : goal.loop-buffer-preserved
loop-buffer-preserved c = record {
  ring = ap (λ (x : End). x.ring) c.give.ensures.returned ∙ c.loop-buffer.invariant.ring;
  held = tail_held role.Device c.loop-buffer.device c.give.new.self c.loop-buffer.held.items c.pop_front.new.self.items c.in-Some.buffer c.length-len.result c.in-Some.ensures.items c.give.ensures.returned c.loop-buffer.invariant.held;
  sound = c.give.ensures.sound;
}
