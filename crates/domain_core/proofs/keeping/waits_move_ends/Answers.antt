use Rattle.domain_core.proofs.WaitsGoing.{any-waits-go, plain-waits-go}
use Rattle.domain_core.proofs.keeping.waits_move_ends.Goals as goal

pub returns-clause-plain : goal.returns-clause-plain
returns-clause-plain c = plain-waits-go

pub returns-clause-rings : goal.returns-clause-rings
returns-clause-rings c = any-waits-go
