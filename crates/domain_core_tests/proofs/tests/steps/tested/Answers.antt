use Rattle.domain_core.proofs.Going.{ends-go}
use Rattle.domain_core_tests.proofs.tests.steps.tested.Goals as goal

pub returns : goal.returns
returns g c = ends-go g.S.SendEnd.Moved g.R.RecvEnd.Moved g.met.S.SendEnd.both g.met.R.RecvEnd.both _ _ _ _ _ _ _ _ c.test-answer.ensures.call
