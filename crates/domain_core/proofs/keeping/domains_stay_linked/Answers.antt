use Rattle.domain_core.proofs.Going.{plain-stay, any-stay}
use Rattle.domain_core.proofs.keeping.domains_stay_linked.Goals as goal

pub returns-clause-plain : goal.returns-clause-plain
returns-clause-plain c = plain-stay

pub returns-clause-rings : goal.returns-clause-rings
returns-clause-rings c = any-stay
