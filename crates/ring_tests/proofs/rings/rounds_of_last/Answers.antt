use Rattle.shared_words.specs.declared.view.Role.TheVariants as role
use Rattle.split_ring.proofs.HeldLemmas.{last_held}
use Rattle.ring_tests.proofs.rings.rounds_of_last.Goals as goal

pub rounds-requires-clause-held : goal.rounds-requires-clause-held
rounds-requires-clause-held c = last_held role.Driver c.args.driver.now c.args.buffers.items c.pop.new.self.items c.in-Some.last c.in-Some.ensures.items c.requires.held
