use Rattle.domain_core.proofs.Going.{ends-go}
use Rattle.domain_core_tests.proofs.tests.received.Goals as goal

pub returns-then-not-is_given : goal.returns-then-not-is_given
returns-then-not-is_given g c = ends-go g.S.SendEnd.Moved g.R.RecvEnd.Moved g.met.S.SendEnd.both g.met.R.RecvEnd.both _ _ _ _ _ _ _ _ c.msg_recv-answer.ensures.call

pub returns : goal.returns
returns g c = ends-go g.S.SendEnd.Moved g.R.RecvEnd.Moved g.met.S.SendEnd.both g.met.R.RecvEnd.both _ _ _ _ _ _ _ _ c.msg_recv-answer.ensures.call
