use Rattle.domain_core.proofs.WaitsGoing.{ends-wait}
use Rattle.domain_core_tests.proofs.tests.steps.waited_any.Goals as goal

pub returns : goal.returns
returns g c = ends-wait g.S.SendEnd.Moved g.R.RecvEnd.Moved g.met.S.SendEnd.none g.met.R.RecvEnd.none g.met.S.SendEnd.both g.met.R.RecvEnd.both _ _ _ _ _ _ _ _ _ c.wait_any-answer.ensures.wait
