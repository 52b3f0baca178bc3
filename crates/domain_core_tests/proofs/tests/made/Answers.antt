use Rattle.domain_core.proofs.Going.{ends-go}
use Rattle.domain_core_tests.proofs.tests.made.Goals as goal

pub returns-in-Create : goal.returns-in-Create
returns-in-Create g c = ends-go g.S.SendEnd.Moved g.R.RecvEnd.Moved g.met.S.SendEnd.both g.met.R.RecvEnd.both _ _ _ _ _ _ _ _ c.create.ensures.call
