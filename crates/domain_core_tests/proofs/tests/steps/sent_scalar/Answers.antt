use Rattle.domain_core.proofs.Going.{ends-go}
use Rattle.domain_core_tests.proofs.tests.steps.sent_scalar.Goals as goal

pub returns-in-Byte : goal.returns-in-Byte
returns-in-Byte g c = ends-go g.S.SendEnd.Moved g.R.RecvEnd.Moved g.met.S.SendEnd.both g.met.R.RecvEnd.both _ _ _ _ _ _ _ _ c.scl_send.ensures.call

pub returns-in-Short : goal.returns-in-Short
returns-in-Short g c = ends-go g.S.SendEnd.Moved g.R.RecvEnd.Moved g.met.S.SendEnd.both g.met.R.RecvEnd.both _ _ _ _ _ _ _ _ c.scl_send-in-Short.ensures.call

pub returns-in-Word : goal.returns-in-Word
returns-in-Word g c = ends-go g.S.SendEnd.Moved g.R.RecvEnd.Moved g.met.S.SendEnd.both g.met.R.RecvEnd.both _ _ _ _ _ _ _ _ c.scl_send-in-Word.ensures.call

pub returns-in-Long : goal.returns-in-Long
returns-in-Long g c = ends-go g.S.SendEnd.Moved g.R.RecvEnd.Moved g.met.S.SendEnd.both g.met.R.RecvEnd.both _ _ _ _ _ _ _ _ c.scl_send-in-Long.ensures.call
