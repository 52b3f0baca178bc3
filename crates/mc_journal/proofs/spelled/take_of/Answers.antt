use Rattle.std.proofs.Common.{arith}
use Rattle.mc_journal.proofs.spelled.take_of.Goals as goal

pub returns-clause-few : goal.returns-clause-few
returns-clause-few c = λ most le. c.in_ok-frame.ensures.few most (omega (arith, le, c.in_ok-peer.ensures.rest))
