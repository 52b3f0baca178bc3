use Rattle.domain_core_tests.proofs.ThreeLinks.{three-are, three-open}
use Rattle.domain_core_tests.proofs.tests.limits.between.Goals as goal

pub open-requires-clause-peers : goal.open-requires-clause-peers
open-requires-clause-peers c = three-are c.in_ok-links.links.items c.in_ok-links.ensures

pub open-requires-clause-open : goal.open-requires-clause-open
open-requires-clause-open c = three-open c.in_ok-links.links.items c.in_ok-links.ensures
