use Rattle.shared_words.specs.declared.view.Role.TheVariants as role
use Rattle.split_ring.proofs.HeldLemmas.{last_held}
use Rattle.ring_bench.proofs.two.offer_last.Goals as goal

pub offer-requires-clause-holds : goal.offer-requires-clause-holds
offer-requires-clause-holds c = last_held role.Driver c.args.driver.now c.args.buffers.items c.pop.new.self.items c.in-Some.buffer c.in-Some.ensures.items c.requires.held
