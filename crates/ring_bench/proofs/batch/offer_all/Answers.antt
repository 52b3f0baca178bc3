use Rattle.std.proofs.Common.{◌∙◌, ap}
use Rattle.shared_words.specs.declared.view.Role.TheVariants as role
use Rattle.split_ring.specs.Ends.{End}
use Rattle.split_ring.proofs.HeldLemmas.{first_held, tail_held}
use Rattle.ring_bench.proofs.batch.offer_all.Goals as goal

pub offer-requires-clause-holds : goal.offer-requires-clause-holds
offer-requires-clause-holds c = first_held role.Driver c.loop-buffer.driver c.loop-buffer.free.items c.pop_front.new.self.items c.in-Some.buffer c.in-Some.ensures.items c.loop-buffer.invariant.held

pub loop-buffer-preserved : goal.loop-buffer-preserved
loop-buffer-preserved c = record {
  ring = ap (λ (x : End). x.ring) c.offer.ensures.offered ∙ c.loop-buffer.invariant.ring;
  held = tail_held role.Driver c.loop-buffer.driver c.offer.new.self c.loop-buffer.free.items c.pop_front.new.self.items c.in-Some.buffer c.length-len.result c.in-Some.ensures.items c.offer.ensures.offered c.loop-buffer.invariant.held;
  sound = c.offer.ensures.sound;
}
