use Rattle.std.proofs.Common.{arith}
use Rattle.view_cli.proofs.Showing.{ends_unasked}
use Rattle.view_cli.proofs.top.mcview.Goals as goal

pub returns-in-None-clause-ends : goal.returns-in-None-clause-ends
returns-in-None-clause-ends g c =
    ends_unasked g.S.Source g.F.Source g.K.Sink c.write_all.result 2 c.after_write.result _ _ _ _ (record { text = _; bytes = c.write_all.ensures.bytes; cause = c.write_all.ensures.cause }) c.after_write.ensures.whole c.after_write.ensures.failed (omega arith)
