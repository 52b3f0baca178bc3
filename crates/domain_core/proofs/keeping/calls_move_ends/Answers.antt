use Rattle.domain_core.proofs.Going.{plain-calls-go, any-calls-go}
use Rattle.domain_core.proofs.keeping.calls_move_ends.Goals as goal

pub returns-clause-plain : goal.returns-clause-plain
returns-clause-plain c = plain-calls-go

pub returns-clause-rings : goal.returns-clause-rings
returns-clause-rings c = any-calls-go
