use Rattle.std.proofs.Common.{◌∙◌, ap}
use Rattle.shared_words.specs.declared.view.Role.TheVariants as role
use Rattle.split_ring.specs.Ends.{End}
use Rattle.split_ring.proofs.HeldLemmas.{last_held, rest_held}
use Rattle.ring_bench.proofs.batch.offer_new.Goals as goal

pub offer-requires-clause-holds : goal.offer-requires-clause-holds
offer-requires-clause-holds c = last_held role.Driver c.loop-buffer.driver c.loop-buffer.buffers.items c.pop.new.self.items c.in-Some.buffer c.in-Some.ensures.items c.loop-buffer.invariant.held

pub loop-buffer-preserved : goal.loop-buffer-preserved
loop-buffer-preserved c = record {
  ring = ap (λ (x : End). x.ring) c.offer.ensures.offered ∙ c.loop-buffer.invariant.ring;
  held = rest_held role.Driver c.loop-buffer.driver c.offer.new.self c.loop-buffer.buffers.items c.pop.new.self.items c.in-Some.buffer c.length-len.result c.in-Some.ensures.items c.offer.ensures.offered c.loop-buffer.invariant.held;
  sound = c.offer.ensures.sound;
}
