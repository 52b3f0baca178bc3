use Rattle.domain_core.proofs.Going.{ends-go}
use Rattle.domain_core_tests.proofs.tests.sent.Goals as goal

pub returns-in_default : goal.returns-in_default
returns-in_default g c = ends-go g.S.SendEnd.Moved g.R.RecvEnd.Moved g.met.S.SendEnd.both g.met.R.RecvEnd.both _ _ _ _ _ _ _ _ c.turn.ensures.call

pub returns : goal.returns
returns g c = ends-go g.S.SendEnd.Moved g.R.RecvEnd.Moved g.met.S.SendEnd.both g.met.R.RecvEnd.both _ _ _ _ _ _ _ _ c.msg_send-answer.ensures.call
